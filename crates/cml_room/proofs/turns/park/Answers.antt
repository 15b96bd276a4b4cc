use Rattle.std.proofs.Common.{subst}
use Rattle.cml_room.specs.{IsStalled, states_in, freed}
use Rattle.cml_room.proofs.EndingLemmas.{parked_within}
use Rattle.cml_room.proofs.ParkingLemmas.{parked_then, unparked, unparked_states}
use Rattle.cml_room.proofs.RisingLemmas.{freed_none}
use Rattle.std.proofs.Common.{get_or}
use Rattle.cml_room.specs.declared.place.Place.TheVariants as place
use Rattle.cml_room.proofs.WokenLemmas.{asked_on, set_asked_within, freed_nothing}
use Rattle.cml_room.proofs.turns.park.Goals as goal

pub set_free-requires : goal.set_free-requires
set_free-requires g c =
    parked_within c.begin_wait.new.seats.places c.args.number c.args.want
    (parked_then (states_in c.args.seats.now.places) c.begin_wait.new.seats.places c.args.number c.args.want
    c.requires.may c.begin_wait.ensures.states)

pub returns-then-is_stalled-clause-parked : goal.returns-then-is_stalled-clause-parked
returns-then-is_stalled-clause-parked g c = (
  subst (IsStalled c.args.floor.now) c.begin_wait.ensures.states (c.is_stalled.ensures.all c.if-is_stalled.true c.begin_wait.ensures.rests),
  unparked_states (states_in c.args.seats.now.places) c.begin_wait.new.seats.places c.set_free.new.self.places
      c.args.number c.args.want c.requires.may
      c.begin_wait.ensures.states c.set_free.ensures.places,
)

pub returns-then-is_stalled-clause-watched : goal.returns-then-is_stalled-clause-watched
returns-then-is_stalled-clause-watched g c =
    unparked c.args.floor.now (states_in c.args.seats.now.places) c.begin_wait.new.seats.places
    c.set_free.new.self.places c.begin_wait.new.seats.all_due
    c.set_free.new.self.all_due c.args.number c.args.want c.requires.may c.begin_wait.ensures.states
    c.set_free.ensures.places c.requires.would
    c.begin_wait.ensures.placed c.begin_wait.ensures.rests c.set_free.ensures.due

pub returns-then-is_stalled-clause-none : goal.returns-then-is_stalled-clause-none
returns-then-is_stalled-clause-none g c =
    freed_none c.args.seats.now.places c.begin_wait.new.seats.places c.set_free.new.self.places c.args.number
    c.begin_wait.ensures.none c.set_free.ensures.places

pub returns-then-is_stalled-clause-asked : goal.returns-then-is_stalled-clause-asked
returns-then-is_stalled-clause-asked g c =
    asked_on c.args.seats.now.places c.begin_wait.new.seats.places c.set_free.new.self.places c.args.number c.begin_wait.ensures.asked
    (set_asked_within c.begin_wait.new.seats.places c.set_free.new.self.places c.args.number
    (freed (get_or c.begin_wait.new.seats.places c.args.number place.Free))
    (parked_within c.begin_wait.new.seats.places c.args.number c.args.want
    (parked_then (states_in c.args.seats.now.places) c.begin_wait.new.seats.places c.args.number c.args.want
    c.requires.may c.begin_wait.ensures.states))
    (freed_nothing (get_or c.begin_wait.new.seats.places c.args.number place.Free)) c.set_free.ensures.places)
