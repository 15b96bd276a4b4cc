use Rattle.cml_replay.specs.{IsLeastBelow}
use Rattle.cml_replay.proofs.execution.Execution.least_ready.Given as goal

abbrev pub invariant-loop-thread : goal.invariant-loop-thread
invariant-loop-thread l = IsLeastBelow l.self.script l.self.history l.thread l.least
