use Rattle.std.proofs.Common.{◌≡◌, ◌++◌, ℕ, List, length}
use Rattle.cml_chart.specs.{IsReplayed}
use Rattle.cml_chart.proofs.journal.replaying.replayed.Given as goal

abbrev pub invariant-loop-rest : goal.invariant-loop-rest
invariant-loop-rest g l = (taken : List ℕ) × (l.text ≡ taken ++ l.rest)
    × IsReplayed g.M.Written.VERSION g.M.Written.meaning taken l.replay.reader l.replay.board

abbrev pub decreases-loop-rest : goal.decreases-loop-rest
decreases-loop-rest g l = length l.rest
