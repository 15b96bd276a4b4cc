use Rattle.cml_room.proofs.RowsLemmas.{linked, shown_is}
use Rattle.cml_room.proofs.ShownLemmas.{adds}
use Rattle.cml_room.proofs.queues.dense.Dense.add.Goals as goal

pub invariant_of-self-2 : goal.invariant_of-self-2
invariant_of-self-2 c = linked _ _ _ (adds _ _ _ _ c.self.view_is c.self.invariant c.in_ok-push.ensures.items)

pub returns-clause-queues : goal.returns-clause-queues
returns-clause-queues c = shown_is _ _ _ (adds _ _ _ _ c.self.view_is c.self.invariant c.in_ok-push.ensures.items)
