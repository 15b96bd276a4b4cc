use Rattle.std.proofs.Common.{sym, ap, subst, ◌∙◌}
use Rattle.cml_room.specs.{RoomShown, is_due, state_of, SleepsRightly}
use Rattle.cml_room.proofs.SleepersLemmas.{due_is, sleeps}
use Rattle.cml_room.proofs.room.Room.is_due.Goals as goal

pub returns-clause-due : goal.returns-clause-due
returns-clause-due g c =
    c.is_due.ensures ∙ (sym (due_is c.self.inside.floor c.self.inside.seats.places c.self.inside.seats.all_due c.args.seat)
    ∙ ap (λ (r : RoomShown g.row.M.Denot). is_due r c.args.seat) c.self.view_is)

pub returns-clause-asleep : goal.returns-clause-asleep
returns-clause-asleep g c = λ isnt on parked.
    subst (λ (r : RoomShown g.row.M.Denot). SleepsRightly r on) c.self.view_is
    (sleeps c.self.inside.floor c.self.inside.seats.places c.self.inside.seats.all_due c.args.seat on c.self.invariant
    (sym c.is_due.ensures ∙ isnt)
    (ap (λ (r : RoomShown g.row.M.Denot). state_of r c.args.seat) c.self.view_is ∙ parked))
