use Rattle.cml_replay.proofs.LeftLemmas.{told_left}
use Rattle.cml_replay.proofs.laws.reports_tell_what_is_left.Goals as goal

pub returns : goal.returns
returns c = told_left
