use Rattle.cml_room.proofs.RunningLemmas.{woken_returned}
use Rattle.cml_room.proofs.laws.woken_is_returned.Goals as goal

pub returns : goal.returns
returns g c = woken_returned
