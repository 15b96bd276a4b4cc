use Rattle.cml_compact.specs.Slowest.{AreNames}
use Rattle.cml_compact.proofs.slowest.names.Given as goal

abbrev pub invariant-loop-name : goal.invariant-loop-name
invariant-loop-name l = AreNames l.name l.names.items
