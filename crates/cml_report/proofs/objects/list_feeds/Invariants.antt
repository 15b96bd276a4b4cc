use Rattle.std.proofs.Common.{◌≡◌, take}
use Rattle.cml_report.specs.{is_feed, positions_where}
use Rattle.cml_report.proofs.objects.list_feeds.Given as goal

abbrev pub invariant-loop-at : goal.invariant-loop-at
invariant-loop-at l = l.feeds.items ≡ positions_where (is_feed l.script) 0 (take l.at l.script.declarations)
