use Rattle.cml_replay.proofs.ScheduleLemmas.{one_schedule}
use Rattle.cml_replay.proofs.laws.schedules_are_one.Goals as goal

pub returns : goal.returns
returns c = one_schedule
