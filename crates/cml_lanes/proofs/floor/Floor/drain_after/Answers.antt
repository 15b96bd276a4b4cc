use Rattle.std.proofs.Common.{slice_get, sym, ap, ◌∙◌}
use Rattle.cml_lanes.specs.{FloorShown, is_open_lane, DrainsUntil}
use Rattle.cml_lanes.proofs.EachRingLemmas.{lane_rings}
use Rattle.cml_lanes.proofs.OneLaneLemmas.{floor_drained, on_lane, drained_ring, gives_all}
use Rattle.cml_lanes.proofs.floor.Floor.drain_after.Goals as goal

pub drain_after-requires-clause-opened : goal.drain_after-requires-clause-opened
drain_after-requires-clause-opened g c =
    ap (λ (f : FloorShown g.row.M.Denot). is_open_lane f c.args.lane) c.self.view_is ∙ c.requires.opened

pub drain_after-requires-clause-kept : goal.drain_after-requires-clause-kept
drain_after-requires-clause-kept g c = c.self.invariant.0.lane c.args.lane

pub invariant_of-self : goal.invariant_of-self
invariant_of-self g c =
    floor_drained g.L.MessageLog.CHUNK g.M.Message.SURE c.args.lane c.drain_after.result.0 c.drain_after.result.1 c.self.inside.board
    c.drain_after.new.board c.self.inside.lanes c.drain_after.new.self
    c.self.inside.feeds.feeds c.drain_after.ensures.until c.self.invariant

pub returns-clause-until : goal.returns-clause-until
returns-clause-until g c =
    on_lane (λ b. DrainsUntil g.L.MessageLog.CHUNK g.M.Message.SURE c.args.lane c.drain_after.result.0 c.drain_after.result.1 b
    c.drain_after.new.board) c.self.view_is c.drain_after.ensures.until

pub returns-clause-rings : goal.returns-clause-rings
returns-clause-rings g c =
    lane_rings (drained_ring g.L.MessageLog.CHUNK g.M.Message.SURE c.args.lane c.drain_after.result.0 c.drain_after.result.1
    c.self.inside.board c.drain_after.new.board) c.self.view_is c.drain_after.ensures.until

pub returns-clause-all : goal.returns-clause-all
returns-clause-all g c =
    let keeps = floor_drained g.L.MessageLog.CHUNK g.M.Message.SURE c.args.lane c.drain_after.result.0 c.drain_after.result.1
    c.self.inside.board c.drain_after.new.board c.self.inside.lanes
    c.drain_after.new.self c.self.inside.feeds.feeds c.drain_after.ensures.until c.self.invariant in
    gives_all c.args.lane c.drain_after.new.board c.drain_after.new.self c.self.inside.feeds.feeds
    c.args.end.now keeps.0 c.drain_after.ensures.all

pub drain_after-requires-clause-ring : goal.drain_after-requires-clause-ring
drain_after-requires-clause-ring g c =
    λ side found. c.requires.ring side (ap (λ (f : FloorShown g.row.M.Denot). slice_get f.lanes c.args.lane) (sym c.self.view_is) ∙ found)
