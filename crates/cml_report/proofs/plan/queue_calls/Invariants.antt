use Rattle.std.proofs.Common.{take}
use Rattle.cml_report.specs.{is_called, AreQueues, items_of}
use Rattle.cml_report.proofs.plan.queue_calls.Given as goal

abbrev pub invariant-loop-i : goal.invariant-loop-i
invariant-loop-i l = AreQueues (is_called l.script) (take l.i l.script.steps) (items_of l.queues.items)
