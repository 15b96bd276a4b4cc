use Rattle.std.proofs.Common.{◌≤◌}
use Rattle.cml_script.proofs.workers.count_threads.Given as goal

abbrev pub invariant-loop-declaration : goal.invariant-loop-declaration
invariant-loop-declaration l = l.threads ≤ l.declaration-index
