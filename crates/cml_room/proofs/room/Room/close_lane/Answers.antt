use Rattle.cml_lanes.proofs.DeedsLemmas.{closes}
use Rattle.cml_room.proofs.BringingLemmas.{was_watched_at}
use Rattle.cml_room.proofs.FramesLemmas.{stirs_few}
use Rattle.cml_room.proofs.room.Room.close_lane.Goals as goal

pub settle_since-requires : goal.settle_since-requires
settle_since-requires g c = was_watched_at c.self.inside.floor c.count_entries-before.ensures c.self.invariant
    (closes g.L.MessageLog.CHUNK g.M.Message.SURE _ _ c.args.end c.close_lane-told.result c.close_lane-told.ensures.closes)

pub returns-clause-closes : goal.returns-clause-closes
returns-clause-closes g c = rw (← c.self.view_is) c.close_lane-told.ensures.closes

pub returns-clause-stirs : goal.returns-clause-stirs
returns-clause-stirs g c = stirs_few c.self.inside.floor c.self.view_is c.settle_since.ensures.settles
