use Rattle.cml_lanes.proofs.ClosedLemmas.{feeds_last}
use Rattle.cml_lanes.proofs.laws.ended_feeds_get_no_entry.Goals as goal

pub returns : goal.returns
returns g c = feeds_last
