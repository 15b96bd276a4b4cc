use Rattle.std.proofs.Common.{◌-◌, length}
use Rattle.cml_board.specs.{made}
use Rattle.cml_compact.specs.Planning.{AreFewest}
use Rattle.cml_compact.proofs.planning.beginnings.Given as goal

abbrev pub invariant-loop-made_later : goal.invariant-loop-made_later
invariant-loop-made_later g l = AreFewest l.board.history (length (made l.board.history) - l.made_later) l.found.items
