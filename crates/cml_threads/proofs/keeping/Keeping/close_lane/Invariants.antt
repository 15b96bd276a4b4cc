use Rattle.std.specs.Prelude.{◌≡◌}
use Rattle.cml_threads.proofs.keeping.Keeping.close_lane.Given as goal

-- the end has not changed, however often the lane was tried
pub record Unclosed (g : goal.Over) (l : goal.Live-loop g) : Type 0 where
  pub can : (goal.iterator-loop g).can_next l.iterator'
  pub ends : (goal.iterator-loop g).is_finite l.iterator'
  pub same : l.end ≡ l.fn.end

abbrev pub invariant-loop : goal.invariant-loop
invariant-loop g l = Unclosed g l
