use Rattle.std.proofs.Common.{◌≡◌, ◌++◌, ℕ, List, length}
use Rattle.std.specs.Io.KnownBytes.{Consumes}
use Rattle.cml_journal.specs.{IsSoFar}
use Rattle.cml.proofs.check.checking.check_all.Given as goal

-- the bytes that were read are checked after the front
pub record Checked (g : goal.Over) (l : goal.Live-loop g) : Type 0 where
  pub can : (goal.iterator-loop g).can_next l.iterator'
  pub ends : (goal.iterator-loop g).is_finite l.iterator'
  pub room : length l.room ≡ 65536
  pub long : length l.front ≡ 15
  pub bytes : List ℕ
  pub given : Consumes (g.R.Read.remaining l.fn.input) (g.R.Read.remaining l.input) bytes
  pub so : IsSoFar g.M.Written.VERSION g.M.Written.meaning (l.front ++ bytes) l.check

abbrev pub invariant-loop : goal.invariant-loop
invariant-loop g l = Checked g l
