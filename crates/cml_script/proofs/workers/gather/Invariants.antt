use Rattle.std.proofs.Common.{◌≡◌, true}
use Rattle.cml_script.specs.{IsUnheld}
use Rattle.cml_script.proofs.workers.gather.Given as goal

abbrev pub invariant-loop-one : goal.invariant-loop-one
invariant-loop-one g l = g.P.Passage.opens ≡ true → IsUnheld l.stop
