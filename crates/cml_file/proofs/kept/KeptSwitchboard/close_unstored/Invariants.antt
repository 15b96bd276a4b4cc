use Rattle.std.specs.Prelude.{◌≡◌}
use Rattle.cml_file.proofs.kept.KeptSwitchboard.close_unstored.Given as goal

-- the end is the one that was given, however often the call was made
pub record Unclosed (g : goal.Over) (l : goal.Live-loop g) : Type 0 where
  pub can : (goal.iterator-loop g).can_next l.iterator'
  pub ends : (goal.iterator-loop g).is_finite l.iterator'
  pub end : l.end ≡ l.fn.end

abbrev pub invariant-loop : goal.invariant-loop
invariant-loop g l = Unclosed g l
