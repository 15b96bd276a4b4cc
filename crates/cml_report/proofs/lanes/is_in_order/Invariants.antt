use Rattle.std.proofs.Common.{◌≤◌, length}
use Rattle.cml_report.proofs.MovedLemmas.{IsSoFar}
use Rattle.cml_report.proofs.lanes.is_in_order.Given as goal

abbrev pub invariant-loop-entry : goal.invariant-loop-entry
invariant-loop-entry l = record {
  within : l.from ≤ length l.plan.steps;
  so_far : IsSoFar l.plan l.lanes l.seat l.at l.journal l.entry-index l.from;
}
