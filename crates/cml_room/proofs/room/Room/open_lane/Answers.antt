use Rattle.cml_room.proofs.UnmovedLemmas.{opened_watched}
use Rattle.cml_room.proofs.FramesLemmas.{keeps}
use Rattle.cml_room.proofs.room.Room.open_lane.Goals as goal

pub invariant_of-self : goal.invariant_of-self
invariant_of-self g c =
    opened_watched c.self.inside.floor c.open_lane.new.self c.self.inside.seats.places c.self.inside.seats.all_due
    c.args.target c.args.capacity c.open_lane.result c.open_lane.ensures.opens c.self.invariant

pub returns-clause-kept : goal.returns-clause-kept
returns-clause-kept g c = keeps c.self.inside.floor c.open_lane.new.self c.self.inside.seats c.self.view_is
