use Rattle.cml_lanes.proofs.DeedsLemmas.{drains}
use Rattle.cml_room.proofs.BringingLemmas.{was_watched_at}
use Rattle.cml_room.proofs.FramesLemmas.{stirs_few}
use Rattle.cml_room.proofs.room.Room.drain.Goals as goal

pub settle_since-requires : goal.settle_since-requires
settle_since-requires g c = was_watched_at c.self.inside.floor c.count_entries-before.ensures c.self.invariant
    (drains g.L.MessageLog.CHUNK g.M.Message.SURE c.args.lane _ _ c.drain-told.result c.drain-told.ensures.drains)

pub returns-clause-stirs : goal.returns-clause-stirs
returns-clause-stirs g c = stirs_few c.self.inside.floor c.self.view_is c.settle_since.ensures.settles
