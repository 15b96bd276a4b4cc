use Rattle.std.proofs.Common.{refl, ap, is_some}
use Rattle.cml_lanes.proofs.OneLaneLemmas.{empties_off}
use Rattle.cml_lanes.proofs.floor.Floor.drop_lane.Goals as goal

pub returns-in_default-clause-drops : goal.returns-in_default-clause-drops
returns-in_default-clause-drops g c =
    empties_off g.L.MessageLog.CHUNK g.M.Message.SURE c.args.lane c.args.lane c.drain_open-count.result.0 c.args.self.now
    c.drain_open-count.new.self c.let_go.new.self c.drain_open-count.result.1 refl
    (ap is_some c.in_default.is) c.drain_open-count.ensures.until c.let_go.ensures.floor
