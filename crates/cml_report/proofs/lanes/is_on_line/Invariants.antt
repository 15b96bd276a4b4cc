use Rattle.std.proofs.Common.{◌≡◌, false, take}
use Rattle.std.specs.List.{list_any}
use Rattle.cml_report.specs.{is_moved_on}
use Rattle.cml_report.proofs.lanes.is_on_line.Given as goal

abbrev pub invariant-loop-lane : goal.invariant-loop-lane
invariant-loop-lane l = list_any (is_moved_on l.plan l.lanes l.entry) (take l.lane-index l.plan.lanes) ≡ false
