use Rattle.cml_compact.specs.Slowest.{AreSlowest}
use Rattle.cml_compact.proofs.slowest.slowest.Given as goal

abbrev pub invariant-loop-port : goal.invariant-loop-port
invariant-loop-port g l = AreSlowest l.board.history l.port l.found.items
