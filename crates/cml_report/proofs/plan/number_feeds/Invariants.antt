use Rattle.cml_report.specs.{is_feed}
use Rattle.cml_report.proofs.LineLemmas.{AreNumbered}
use Rattle.cml_report.proofs.plan.number_feeds.Given as goal

abbrev pub invariant-loop-declaration : goal.invariant-loop-declaration
invariant-loop-declaration l = AreNumbered (is_feed l.script) l.script.declarations l.declaration-index l.feeds l.numbers.items
