use Rattle.cml_room.proofs.InTurnLemmas.{at_most_each}
use Rattle.cml_room.proofs.laws.next_due_ends.Goals as goal

pub returns : goal.returns
returns g c = at_most_each
