use Rattle.cml_lanes.proofs.ClosedLemmas.{lanes_last}
use Rattle.cml_lanes.proofs.laws.closed_lanes_get_no_entry.Goals as goal

pub returns : goal.returns
returns g c = lanes_last
