use Rattle.std.proofs.Common.{◌≡◌}
use Rattle.cml_tests.proofs.threads.floors.cast_three.Given as goal

abbrev pub invariant-loop-number : goal.invariant-loop-number
invariant-loop-number l = l.floor.feeds ≡ l.initial.floor.feeds
