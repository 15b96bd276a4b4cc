use Rattle.std.proofs.Common.{◌≡◌, ◌++◌}
use Rattle.cml_compact.proofs.planning.add_owed.Given as goal

abbrev pub invariant-loop-message : goal.invariant-loop-message
invariant-loop-message g l = l.messages.items ≡ l.fn.messages.items ++ l.yielded
