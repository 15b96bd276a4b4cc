use Rattle.cml_grammar.specs.{makes_feed}
use Rattle.cml_report.specs.{is_feed}
use Rattle.cml_report.proofs.LineLemmas.{declaration_counted, declaration_feed}
use Rattle.cml_report.proofs.plan.count_feeds.Goals as goal

pub loop-declaration-preserved : goal.loop-declaration-preserved
loop-declaration-preserved c =
    let script = c.args.script.now in
    let told = c.declarations-declaration-items.ensures in
    declaration_counted script (is_feed script) makes_feed
    (declaration_feed script) _ _ _ _ c.declaration-item.result _ told.lines told.makes
    c.loop-declaration-test.true c.declaration-item.is c.loop-declaration.invariant c.from-feeds.ensures c.makes_feed.ensures
