use Rattle.cml_threads.specs.{Returns}
use Rattle.cml_threads.proofs.switchboard.Switchboard.call.Given as goal

-- the outcome is as of a first call, however often the call was made again
pub record Waiting (g : goal.Over) (l : goal.Live-loop g) : Type 0 where
  pub can : (goal.iterator-loop g).can_next l.iterator'
  pub ends : (goal.iterator-loop g).is_finite l.iterator'
  pub returns : Returns l.fn.seat l.seat l.fn.call l.outcome

abbrev pub invariant-loop : goal.invariant-loop
invariant-loop g l = Waiting g l
