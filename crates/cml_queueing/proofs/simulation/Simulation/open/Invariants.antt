use Rattle.cml_queueing.specs.{KeepsDemand}
use Rattle.cml_queueing.proofs.simulation.Simulation.open.Given as goal

abbrev pub invariant-loop-server : goal.invariant-loop-server
invariant-loop-server l = KeepsDemand l.fn.self (record { customers = l.self-inside.demand.customers; place = l.self-inside.station })
