use Rattle.cml_room.proofs.QuietLemmas.{opened_follows}
use Rattle.cml_room.proofs.FramesLemmas.{stirs_none}
use Rattle.cml_room.proofs.room.Room.open_feed.Goals as goal

pub settle-requires-clause-was : goal.settle-requires-clause-was
settle-requires-clause-was g c = record {
  before = c.self.inside.floor;
  watched = c.self.invariant;
  follows =
      opened_follows g.L.MessageLog.CHUNK g.M.Message.SURE c.self.inside.floor c.open_feed-told.new.self c.args.channel c.args.capacity
      c.open_feed-told.result c.open_feed-told.ensures.opens;
}

pub returns-clause-stirs : goal.returns-clause-stirs
returns-clause-stirs g c = stirs_none c.self.inside.floor c.self.view_is c.settle.ensures.settles
