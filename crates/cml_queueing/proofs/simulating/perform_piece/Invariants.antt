use Rattle.cml_queueing.specs.{KeepsDemand}
use Rattle.cml_queueing.proofs.simulating.perform_piece.Given as goal

abbrev pub invariant-loop : goal.invariant-loop
invariant-loop l = KeepsDemand l.fn.simulation l.simulation
