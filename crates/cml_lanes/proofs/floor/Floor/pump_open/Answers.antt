use Rattle.std.proofs.Common.{refl, subst}
use Rattle.cml_lanes.specs.{FloorShown, OnFeed, stays, PumpsUntil}
use Rattle.cml_lanes.proofs.EachRingLemmas.{feed_rings}
use Rattle.cml_lanes.proofs.OneFeedLemmas.{open_feed_slot, floor_pumped, pumped_ring}
use Rattle.cml_lanes.proofs.floor.Floor.pump_open.Goals as goal

pub pump-requires-clause-opened : goal.pump-requires-clause-opened
pump-requires-clause-opened g c =
    open_feed_slot c.args.feed c.self.inside.board c.self.inside.feeds.feeds c.args.self.now c.self.view_is c.requires

pub pump-requires-clause-kept : goal.pump-requires-clause-kept
pump-requires-clause-kept g c = c.self.invariant.1.feed c.args.feed

pub invariant_of-self : goal.invariant_of-self
invariant_of-self g c =
    floor_pumped g.L.MessageLog.CHUNK g.M.Message.SURE c.args.feed c.pump.result.0 c.pump.result.1 c.self.inside.board c.pump.new.board
    c.self.inside.lanes c.self.inside.feeds.feeds
    c.pump.new.self.feeds c.pump.ensures c.self.invariant

pub returns-clause-until : goal.returns-clause-until
returns-clause-until g c =
    subst (λ (f : FloorShown g.row.M.Denot). OnFeed stays c.args.feed f
    (record { board = c.pump.new.board; lanes = c.self.inside.lanes; feeds = c.pump.new.self.feeds })
    (PumpsUntil g.L.MessageLog.CHUNK g.M.Message.SURE c.args.feed c.pump.result.0 c.pump.result.1 f.board c.pump.new.board))
    c.self.view_is (record { place = c.pump.ensures; lanes = refl })

pub returns-clause-rings : goal.returns-clause-rings
returns-clause-rings g c =
    feed_rings (pumped_ring g.L.MessageLog.CHUNK g.M.Message.SURE c.args.feed c.pump.result.0 c.pump.result.1
    c.self.inside.board c.pump.new.board) c.self.view_is c.pump.ensures
