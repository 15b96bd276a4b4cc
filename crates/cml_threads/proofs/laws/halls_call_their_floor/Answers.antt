use Rattle.cml_threads.proofs.ReservedLemmas.{calls_floor}
use Rattle.cml_threads.proofs.laws.halls_call_their_floor.Goals as goal

pub returns : goal.returns
returns g c = calls_floor
