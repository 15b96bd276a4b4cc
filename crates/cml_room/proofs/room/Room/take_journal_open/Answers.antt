use Rattle.std.proofs.Common.{reverse, subst}
use Rattle.cml_lanes.specs.{KeepsRings}
use Rattle.cml_room.specs.{RoomShown, floor_of}
use Rattle.cml_room.proofs.UnmovedLemmas.{cut_open_watched}
use Rattle.cml_room.proofs.FramesLemmas.{keeps}
use Rattle.cml_room.proofs.room.Room.take_journal_open.Goals as goal

pub invariant_of-self : goal.invariant_of-self
invariant_of-self g c =
    cut_open_watched c.self.inside.floor c.take_journal_open.new.self c.self.inside.seats.places c.self.inside.seats.all_due
    (reverse c.take_journal_open.result.items) c.take_journal_open.ensures.taken c.take_journal_open.ensures.cut c.self.invariant

pub returns-clause-rings : goal.returns-clause-rings
returns-clause-rings g c =
    subst (λ (r : RoomShown g.row.M.Denot). KeepsRings (floor_of r) c.take_journal_open.new.self)
    c.self.view_is c.take_journal_open.ensures.rings

pub returns-clause-kept : goal.returns-clause-kept
returns-clause-kept g c = keeps c.self.inside.floor c.take_journal_open.new.self c.self.inside.seats c.self.view_is
