use Rattle.std.proofs.Common.{ap, is_some}
use Rattle.cml_lanes.proofs.OneLaneLemmas.{empties_off, all_stands}
use Rattle.cml_lanes.proofs.floor.Floor.close_lane.Goals as goal

pub returns-clause-closes : goal.returns-clause-closes
returns-clause-closes g c = (
  (
    c.drain_after.result.0,
    empties_off g.L.MessageLog.CHUNK g.M.Message.SURE c.number-lane.result c.args.end.number c.drain_after.result.0 c.args.self.now
        c.drain_after.new.self c.let_go.new.self c.drain_after.result.1 c.number-lane.ensures
        (ap is_some c.in_default.is) c.drain_after.ensures.until c.let_go.ensures.floor,
  ),
  all_stands g.L.MessageLog.CHUNK g.M.Message.SURE c.number-lane.result c.args.end.number c.drain_after.result.0 c.args.self.now
      c.drain_after.new.self c.let_go.new.self c.drain_after.result.1 c.number-lane.ensures
      (ap is_some c.in_default.is) c.drain_after.ensures.until c.let_go.ensures.floor c.args.end c.drain_after.ensures.all,
)
