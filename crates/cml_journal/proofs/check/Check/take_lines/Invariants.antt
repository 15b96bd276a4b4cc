use Rattle.std.proofs.Common.{◌≡◌, ◌++◌, ℕ, List, length}
use Rattle.cml_journal.specs.{Goes}
use Rattle.cml_journal.proofs.check.Check.take_lines.Given as goal

abbrev pub invariant-loop-rest : goal.invariant-loop-rest
invariant-loop-rest g l = (taken : List ℕ) × (l.bytes ≡ taken ++ l.rest)
    × Goes g.M.Written.VERSION g.M.Written.meaning l.fn.self taken l.self × (l.self.halt ≡ l.fn.self.halt)

abbrev pub decreases-loop-rest : goal.decreases-loop-rest
decreases-loop-rest g l = length l.rest
