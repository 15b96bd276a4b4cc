use Rattle.std.proofs.Common.{false, refl, subst, ◌∙◌}
use Rattle.cml_room.specs.{notices_in, RoomShown, states_in, GivesNext}
use Rattle.cml_room.proofs.SleepersLemmas.{wakes_alike, alike_watched, next_given, next_all, next_same}
use Rattle.cml_room.proofs.TurningLemmas.{room_of}
use Rattle.cml_room.proofs.WokenLemmas.{gives_next, wakes_only}
use Rattle.cml_room.proofs.room.Room.next_due.Goals as goal

pub invariant_of-self : goal.invariant_of-self
invariant_of-self g c =
    let olds = c.self.inside.seats.places in
    let mids = c.rouse_due.new.seats.places in
    let watched = alike_watched c.self.inside.floor olds mids c.self.inside.seats.all_due false c.rouse_due.ensures.alike c.self.invariant
    (λ now number waiter quiet. c.rouse_due.ensures.quiet number waiter quiet) in
    alike_watched c.self.inside.floor mids c.wake_next.new.self.places false c.wake_next.new.self.all_due
    (wakes_alike mids c.wake_next.new.self.places c.wake_next.result c.wake_next.ensures.woken) watched (λ now number waiter quiet. refl)

pub returns : goal.returns
returns g c =
    let news = c.wake_next.new.self.places in
    let olds = c.self.inside.seats.places in
    let made =
    subst (λ (r : RoomShown g.row.M.Denot). GivesNext c.wake_next.result r
    (room_of c.self.inside.floor (states_in news) (notices_in news) c.wake_next.new.self.all_due))
    c.self.view_is
    (gives_next c.wake_next.result (room_of c.self.inside.floor (states_in olds) (notices_in olds) c.self.inside.seats.all_due)
    (room_of c.self.inside.floor (states_in news) (notices_in news) c.wake_next.new.self.all_due)
    (next_given c.self.inside.floor olds c.rouse_due.new.seats.places news c.self.inside.seats.all_due c.wake_next.result
    c.rouse_due.ensures.alike c.rouse_due.ensures.same c.wake_next.ensures.woken)
    (wakes_only olds c.rouse_due.new.seats.places news c.wake_next.result c.rouse_due.ensures.woken c.wake_next.ensures.woken)
    (next_all c.self.inside.floor c.rouse_due.new.seats.places news c.wake_next.new.self.all_due c.wake_next.result
    (c.wake_next.ensures.due ∙ c.rouse_due.ensures.due) c.wake_next.ensures.woken)
    (c.wake_next.ensures.due ∙ c.rouse_due.ensures.due)
    (λ number. next_same c.self.inside.floor olds c.rouse_due.new.seats.places news c.self.inside.seats.all_due c.wake_next.new.self.all_due
    c.wake_next.result number (c.wake_next.ensures.due ∙ c.rouse_due.ensures.due) c.rouse_due.ensures.same c.wake_next.ensures.woken)
    ((wakes_alike c.rouse_due.new.seats.places news c.wake_next.result c.wake_next.ensures.woken).states ∙ c.rouse_due.ensures.alike.states)
    refl) in
    record { gives = made }
