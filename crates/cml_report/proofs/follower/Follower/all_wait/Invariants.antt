use Rattle.std.proofs.Common.{ℕ, ◌+◌, ◌<◌}
use Rattle.cml_report.specs.{WaitsOrIsDone, history_of}
use Rattle.cml_report.proofs.follower.Follower.all_wait.Given as goal

abbrev pub invariant-loop-thread : goal.invariant-loop-thread
invariant-loop-thread l = (k : ℕ) → k < l.thread → WaitsOrIsDone l.self.script (history_of l.self) (k + 1)
