use Rattle.std.proofs.Common.{rules, ◌≡◌, ◌≢◌, ℕ, inl, inr, List, Some, slice_get, slice_set, refl, sym, ap, subst, ◌∙◌}
use Rattle.std.proofs.lemmas.List.{map-set}
use Rattle.cml_lanes.specs.{FloorShown}
use Rattle.cml_room.specs.{Place, state_by, states_in, notices_in, MakesNoneDue, RoomShown, MayAsk, with_state, IsMade, KeepsWoken, Other}
use Rattle.cml_room.specs.{SeatsShown, free_in, IsWatched}
use Rattle.cml_room.specs.declared.place.Place.TheVariants.{Free, Left}
use Rattle.cml_room.specs.declared.state.State.TheVariants as state
use Rattle.cml_room.specs.{with_seats}
use Rattle.cml_room.proofs.IdlingLemmas.{none_waits}
use Rattle.cml_room.proofs.SleepersLemmas.{left_watched, free_place}
use Rattle.cml_room.proofs.ParkingLemmas.{none_watched}
use Rattle.cml_room.proofs.RisingLemmas.{left_none, none_due}
use Rattle.cml_room.proofs.WokenLemmas.{set_keeps}
use Rattle.cml_room.proofs.room.Room.leave.Goals as goal

-- a free seat has left: that it was free, that none became due, and who counts as woken
has_left : {M : Type 0} (room : RoomShown M) (floor : FloorShown M) (olds lates : SeatsShown) (seat : ℕ) → with_seats floor olds ≡ room
    → slice_get (states_in olds.places) seat ≡ Some state.Free → lates.places ≡ slice_set olds.places seat Left
    → (MayAsk room seat × (states_in lates.places ≡ with_state room seat state.Left)) × MakesNoneDue room (with_seats floor lates)
    × IsMade Other room (with_seats floor lates)
has_left {M} room floor olds lates seat view was set = (
  subst (λ (r : RoomShown M). MayAsk r seat × (states_in lates.places ≡ with_state r seat state.Left)) view
      (was, ap states_in set ∙ map-set state_by olds.places seat Left),
  none_due room floor floor olds.places lates.places olds.all_due lates.all_due view (left_none olds.places lates.places seat set),
  subst (λ (r : RoomShown M). KeepsWoken r.notices (notices_in lates.places)) view
      (set_keeps olds.places lates.places seat Free Left (free_place olds.places seat was) refl set),
)

pub invariant_of-self : goal.invariant_of-self
invariant_of-self g c =
    let seats = c.self.inside.seats in
    let lates = c.rouse_if_none_free.new.seats in
    let set = c.rouse_if_none_free.ensures.places ∙ c.leave.ensures.places in
    elim c.rouse_if_none_free.ensures.rests [
      | inl alone ↦ none_watched c.self.inside.floor lates.places lates.all_due (none_waits lates.places alone)
      | inr rests ↦
          subst (λ (l : List Place). IsWatched c.self.inside.floor l lates.all_due) (sym set)
          (left_watched c.self.inside.floor seats.places c.args.seat seats.all_due lates.all_due
          (free_place seats.places c.args.seat (search rules))
          c.self.invariant
          (λ now. (sym c.leave.ensures.due ∙ (rests now).0, subst (λ (l : List Place). free_in (states_in l) ≢ 0) set (rests now).1)))
    ]

pub returns-clause-left : goal.returns-clause-left
returns-clause-left g c =
    (has_left c.args.self.now c.self.inside.floor c.self.inside.seats c.rouse_if_none_free.new.seats
    c.args.seat c.self.view_is (search rules)
    (c.rouse_if_none_free.ensures.places ∙ c.leave.ensures.places)).0

pub returns-clause-none : goal.returns-clause-none
returns-clause-none g c =
    (has_left c.args.self.now c.self.inside.floor c.self.inside.seats c.rouse_if_none_free.new.seats
    c.args.seat c.self.view_is (search rules)
    (c.rouse_if_none_free.ensures.places ∙ c.leave.ensures.places)).1

pub returns-clause-step : goal.returns-clause-step
returns-clause-step g c =
    (has_left c.args.self.now c.self.inside.floor c.self.inside.seats c.rouse_if_none_free.new.seats
    c.args.seat c.self.view_is (search rules)
    (c.rouse_if_none_free.ensures.places ∙ c.leave.ensures.places)).2

pub returns-clause-alarm : goal.returns-clause-alarm
returns-clause-alarm g c = λ free.
    c.rouse_if_none_free.ensures.alarm free ∙ c.leave.ensures.due ∙ ap (λ (r : RoomShown g.row.M.Denot). r.all_due) c.self.view_is

pub returns-clause-alone : goal.returns-clause-alone
returns-clause-alone g c = λ none.
    c.rouse_if_none_free.ensures.alone none ∙ c.leave.ensures.due ∙ ap (λ (r : RoomShown g.row.M.Denot). r.all_due) c.self.view_is
