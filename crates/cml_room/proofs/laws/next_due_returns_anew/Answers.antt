use Rattle.cml_room.proofs.RunningLemmas.{returned_anew}
use Rattle.cml_room.proofs.laws.next_due_returns_anew.Goals as goal

pub returns : goal.returns
returns g c = returned_anew
