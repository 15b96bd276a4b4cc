use Rattle.std.proofs.Common.{◌≡◌, min}
use Rattle.cml_compact.specs.{settled}
use Rattle.cml_compact.specs.Stages.{weights}
use Rattle.cml_compact.proofs.measuring.compact_length.Given as goal

abbrev pub invariant-loop-name : goal.invariant-loop-name
invariant-loop-name g l = l.entries ≡ min (weights (settled l.board.history) l.name) 18446744073709551615
