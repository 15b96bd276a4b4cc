use Rattle.std.proofs.Common.{ℕ, ◌<◌, reverse}
use Rattle.cml_report.specs.{IsInOrderAt}
use Rattle.cml_report.proofs.lanes.are_in_order.Given as goal

abbrev pub invariant-loop-lane : goal.invariant-loop-lane
invariant-loop-lane l = (k : ℕ) → k < l.lane-index → IsInOrderAt l.plan l.lanes (reverse l.journal) k
