use Rattle.cml_room.proofs.RunningLemmas.{asked_undue}
use Rattle.cml_room.proofs.laws.asked_is_not_due.Goals as goal

pub returns : goal.returns
returns g c = asked_undue
