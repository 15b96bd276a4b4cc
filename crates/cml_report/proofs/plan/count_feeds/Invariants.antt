use Rattle.cml_report.specs.{is_feed}
use Rattle.cml_report.proofs.LineLemmas.{AreCounted}
use Rattle.cml_report.proofs.plan.count_feeds.Given as goal

abbrev pub invariant-loop-declaration : goal.invariant-loop-declaration
invariant-loop-declaration l = AreCounted (is_feed l.script) l.script.declarations l.declaration-index l.feeds
