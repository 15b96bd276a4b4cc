use Rattle.cml_room.proofs.UnmovedLemmas.{reserved_watched}
use Rattle.cml_room.proofs.FramesLemmas.{keeps}
use Rattle.cml_room.proofs.room.Room.reserve.Goals as goal

pub invariant_of-self : goal.invariant_of-self
invariant_of-self g c =
    reserved_watched c.self.inside.floor c.reserve.new.self c.self.inside.seats.places c.self.inside.seats.all_due
    c.args.n c.reserve.result c.reserve.ensures.reserves c.self.invariant

pub returns-clause-kept : goal.returns-clause-kept
returns-clause-kept g c = keeps c.self.inside.floor c.reserve.new.self c.self.inside.seats c.self.view_is
