use Rattle.std.proofs.Common.{None}
use Rattle.cml_room.proofs.BringingLemmas.{abandoned_follows}
use Rattle.cml_room.proofs.FramesLemmas.{stirs_none}
use Rattle.cml_room.proofs.room.Room.abandon_lane.Goals as goal

pub settle-requires-clause-was : goal.settle-requires-clause-was
settle-requires-clause-was g c = record {
  before = c.self.inside.floor;
  watched = c.self.invariant;
  follows = abandoned_follows c.args.lane c.self.inside.floor c.abandon_lane-told.new.self c.abandon_lane-told.result None
      c.abandon_lane-told.ensures.abandons;
}

pub returns-clause-stirs : goal.returns-clause-stirs
returns-clause-stirs g c = stirs_none c.self.inside.floor c.self.view_is c.settle.ensures.settles
