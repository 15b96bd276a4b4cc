use Rattle.cml_room.proofs.QuietLemmas.{pumped_follows}
use Rattle.cml_room.proofs.FramesLemmas.{stirs_none}
use Rattle.cml_room.proofs.room.Room.pump.Goals as goal

pub settle-requires-clause-was : goal.settle-requires-clause-was
settle-requires-clause-was g c = record {
  before = c.self.inside.floor;
  watched = c.self.invariant;
  follows = pumped_follows g.L.MessageLog.CHUNK g.M.Message.SURE c.args.feed c.self.inside.floor c.pump-told.new.self
      c.pump-told.result c.pump-told.ensures.pumps;
}

pub returns-clause-stirs : goal.returns-clause-stirs
returns-clause-stirs g c = stirs_none c.self.inside.floor c.self.view_is c.settle.ensures.settles
