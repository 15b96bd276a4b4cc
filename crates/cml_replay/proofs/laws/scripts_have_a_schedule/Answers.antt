use Rattle.cml_replay.proofs.GoingOnLemmas.{has_schedule}
use Rattle.cml_replay.proofs.laws.scripts_have_a_schedule.Goals as goal

pub returns : goal.returns
returns c = has_schedule
