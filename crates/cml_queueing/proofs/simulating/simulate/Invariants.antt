use Rattle.cml_queueing.specs.{KeepsDemand}
use Rattle.cml_queueing.proofs.simulating.simulate.Given as goal

abbrev pub invariant-loop : goal.invariant-loop
invariant-loop g l = KeepsDemand l.fn.simulation l.simulation
