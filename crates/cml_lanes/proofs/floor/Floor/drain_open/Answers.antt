use Rattle.std.proofs.Common.{ap, ◌∙◌}
use Rattle.cml_lanes.specs.{FloorShown, is_open_lane, DrainsUntil}
use Rattle.cml_lanes.proofs.EachRingLemmas.{lane_rings}
use Rattle.cml_lanes.proofs.OneLaneLemmas.{floor_drained, on_lane, drained_ring}
use Rattle.cml_lanes.proofs.floor.Floor.drain_open.Goals as goal

pub drain-requires-clause-opened : goal.drain-requires-clause-opened
drain-requires-clause-opened g c = ap (λ (f : FloorShown g.row.M.Denot). is_open_lane f c.args.lane) c.self.view_is ∙ c.requires

pub drain-requires-clause-kept : goal.drain-requires-clause-kept
drain-requires-clause-kept g c = c.self.invariant.0.lane c.args.lane

pub invariant_of-self : goal.invariant_of-self
invariant_of-self g c =
    floor_drained g.L.MessageLog.CHUNK g.M.Message.SURE c.args.lane c.drain.result.0 c.drain.result.1 c.self.inside.board c.drain.new.board
    c.self.inside.lanes c.drain.new.self
    c.self.inside.feeds.feeds c.drain.ensures c.self.invariant

pub returns-clause-until : goal.returns-clause-until
returns-clause-until g c =
    on_lane (λ b. DrainsUntil g.L.MessageLog.CHUNK g.M.Message.SURE c.args.lane c.drain.result.0 c.drain.result.1 b c.drain.new.board)
    c.self.view_is c.drain.ensures

pub returns-clause-rings : goal.returns-clause-rings
returns-clause-rings g c =
    lane_rings (drained_ring g.L.MessageLog.CHUNK g.M.Message.SURE c.args.lane c.drain.result.0 c.drain.result.1
    c.self.inside.board c.drain.new.board) c.self.view_is c.drain.ensures
