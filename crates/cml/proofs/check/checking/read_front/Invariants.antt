use Rattle.std.proofs.Common.{◌≡◌, ◌≤◌, length}
use Rattle.std.specs.Io.KnownBytes.{Consumes}
use Rattle.cml.proofs.check.checking.read_front.Given as goal

-- the front is what was read, and has 15 bytes at most
pub record Fronted (g : goal.Over) (l : goal.Live-loop g) : Type 0 where
  pub can : (goal.iterator-loop g).can_next l.iterator'
  pub ends : (goal.iterator-loop g).is_finite l.iterator'
  pub room : length l.room ≡ 15
  pub most : length l.front.items ≤ 15
  pub given : Consumes (g.R.Read.remaining l.fn.input) (g.R.Read.remaining l.input) l.front.items

abbrev pub invariant-loop : goal.invariant-loop
invariant-loop g l = Fronted g l
