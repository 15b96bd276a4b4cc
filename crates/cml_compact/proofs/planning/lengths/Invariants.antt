use Rattle.cml_compact.proofs.PlanLemmas.{AreLengths}
use Rattle.cml_compact.proofs.planning.lengths.Given as goal

abbrev pub invariant-loop-name : goal.invariant-loop-name
invariant-loop-name g l = AreLengths l.board.history l.slowest.items l.name l.found.items
