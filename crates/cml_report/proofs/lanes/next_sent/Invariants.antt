use Rattle.std.proofs.Common.{◌≡◌, drop}
use Rattle.cml_report.specs.{sends_to}
use Rattle.cml_report.proofs.lanes.next_sent.Given as goal

abbrev pub invariant-loop-i : goal.invariant-loop-i
invariant-loop-i l = sends_to l.plan l.seat l.at (drop l.from l.plan.steps) ≡ sends_to l.plan l.seat l.at (drop l.i l.plan.steps)
