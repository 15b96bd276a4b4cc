use Rattle.std.proofs.Common.{take}
use Rattle.cml_report.specs.{is_seated, AreQueues, items_of}
use Rattle.cml_report.proofs.plan.queue_turns.Given as goal

abbrev pub invariant-loop-i : goal.invariant-loop-i
invariant-loop-i l = AreQueues (is_seated l.script) (take l.i l.script.steps) (items_of l.queues.items)
