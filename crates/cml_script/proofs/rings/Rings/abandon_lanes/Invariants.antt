use Rattle.std.proofs.Common.{vec_len}
use Rattle.cml_script.proofs.rings.Rings.abandon_lanes.Given as goal

abbrev pub decreases-loop-open : goal.decreases-loop-open
decreases-loop-open g l = vec_len l.self.lanes
