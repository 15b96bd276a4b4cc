use Rattle.cml_threads.specs.{Responds}
use Rattle.cml_threads.proofs.switchboard.Switchboard.reply.Given as goal

-- the response is as of a first call, however often the call was made again
pub record Waiting (g : goal.Over) (l : goal.Live-loop g) : Type 0 where
  pub can : (goal.iterator-loop g).can_next l.iterator'
  pub ends : (goal.iterator-loop g).is_finite l.iterator'
  pub responds : Responds l.fn.seat l.seat l.fn.call l.response

abbrev pub invariant-loop : goal.invariant-loop
invariant-loop g l = Waiting g l
