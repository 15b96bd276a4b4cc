use Rattle.std.specs.Prelude.{◌≡◌}
use Rattle.cml_file.proofs.kept.KeptSwitchboard.make.Given as goal

-- neither the seat nor the call has changed, however often the call was made
pub record Unmade (g : goal.Over) (l : goal.Live-loop g) : Type 0 where
  pub can : (goal.iterator-loop g).can_next l.iterator'
  pub ends : (goal.iterator-loop g).is_finite l.iterator'
  pub seat : l.seat ≡ l.fn.seat
  pub call : l.call ≡ l.fn.call

abbrev pub invariant-loop : goal.invariant-loop
invariant-loop g l = Unmade g l
