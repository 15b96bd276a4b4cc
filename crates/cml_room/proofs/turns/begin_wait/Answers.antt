use Rattle.std.proofs.Common.{rules, ◌≡◌, slice_get, Some, sym, ◌∙◌}
use Rattle.cml_room.specs.declared.state.State.TheVariants.{Free, Parked}
use Rattle.cml_room.specs.{states_in, quieted}
use Rattle.cml_room.proofs.EndingLemmas.{free_place, parked_within}
use Rattle.cml_room.proofs.ParkingLemmas.{Begun, free_begun, waits_begun, waits_unless_free}
use Rattle.std.proofs.Common.{get_or, refl}
use Rattle.cml_room.specs.declared.notice.Notice.TheVariants.{Nothing}
use Rattle.cml_room.specs.declared.place.Place.TheVariants as place
use Rattle.cml_room.proofs.WokenLemmas.{set_asked, set_asked_within, quieted_nothing}
use Rattle.cml_room.proofs.turns.begin_wait.Goals.{After-wait, Else-eq, After-quiet}
use Rattle.cml_room.proofs.turns.begin_wait.Goals as goal

-- the seat was free
free : (g : _) (c : After-wait g) → slice_get c.args.seats.now.places c.args.number ≡ Some place.Free
free g c =
    let state : slice_get (states_in c.args.seats.now.places) c.args.number ≡ Some Free = search rules in
    free_place c.args.seats.now.places c.args.number state

began : (g : _) (c : After-wait g)
    → Begun c.args.floor.now.board c.args.seats.now.places c.wait.new.self.places c.args.number c.args.want
began g c =
    free_begun c.args.floor.now.board c.board.result.now c.args.seats.now.places c.wait.new.self.places c.args.number c.args.want
    c.object_of.result.0 c.source_of-source.result (free g c) c.wait.ensures.places c.board.ensures.board
    c.object_of.ensures c.source_of-source.ensures c.requires.would c.requires.watched.placed

-- the seat waited
parked : (g : _) (c : Else-eq g) → slice_get (states_in c.args.seats.now.places) c.args.number ≡ Some (Parked c.args.want)
parked g c =
    let other : ¬ (slice_get (states_in c.args.seats.now.places) c.args.number ≡ Some Free) = search rules in
    waits_unless_free (states_in c.args.seats.now.places) c.args.number c.args.want c.requires.may other

waits : (g : _) (c : After-quiet g) → slice_get (states_in c.args.seats.now.places) c.args.number ≡ Some (Parked c.args.want)
    → Begun c.args.floor.now.board c.args.seats.now.places c.quiet.new.self.places c.args.number c.args.want
waits g c was = waits_begun c.args.floor.now.board c.args.seats.now.places c.quiet.new.self.places c.args.number c.args.want
    was c.quiet.ensures.places c.requires.would c.requires.watched.placed

pub returns-then-eq-clause-states : goal.returns-then-eq-clause-states
returns-then-eq-clause-states g c = (began g (goal.at.returns-then-eq-clause-states g c).After-wait).states

pub returns-then-eq-clause-placed : goal.returns-then-eq-clause-placed
returns-then-eq-clause-placed g c = (began g (goal.at.returns-then-eq-clause-placed g c).After-wait).placed

pub returns-then-eq-clause-rests : goal.returns-then-eq-clause-rests
returns-then-eq-clause-rests g c = λ none.
    (began g (goal.at.returns-then-eq-clause-rests g c).After-wait).rests (c.requires.watched.rests (sym c.wait.ensures.due ∙ none))

pub quiet-requires : goal.quiet-requires
quiet-requires g c =
    parked_within c.args.seats.now.places c.args.number c.args.want (parked g (goal.at.quiet-requires g c).Else-eq)

pub returns-clause-states : goal.returns-clause-states
returns-clause-states g c = let at = goal.at.returns-clause-states g c in (waits g at.After-quiet (parked g at.Else-eq)).states

pub returns-clause-placed : goal.returns-clause-placed
returns-clause-placed g c = let at = goal.at.returns-clause-placed g c in (waits g at.After-quiet (parked g at.Else-eq)).placed

pub returns-clause-rests : goal.returns-clause-rests
returns-clause-rests g c = λ none.
    let at = goal.at.returns-clause-rests g c in
    (waits g at.After-quiet (parked g at.Else-eq)).rests (c.requires.watched.rests (sym c.quiet.ensures.due ∙ none))

pub returns-then-eq-clause-none : goal.returns-then-eq-clause-none
returns-then-eq-clause-none g c = (began g (goal.at.returns-then-eq-clause-none g c).After-wait).none

pub returns-clause-none : goal.returns-clause-none
returns-clause-none g c = let at = goal.at.returns-clause-none g c in (waits g at.After-quiet (parked g at.Else-eq)).none

pub returns-then-eq-clause-asked : goal.returns-then-eq-clause-asked
returns-then-eq-clause-asked g c =
    set_asked c.args.seats.now.places c.wait.new.self.places c.args.number place.Free
    (place.Waiting (record { want = c.args.want; source = c.source_of-source.result; notice = Nothing }))
    (free g (goal.at.returns-then-eq-clause-asked g c).After-wait) refl c.wait.ensures.places

pub returns-clause-asked : goal.returns-clause-asked
returns-clause-asked g c =
    set_asked_within c.args.seats.now.places c.quiet.new.self.places c.args.number
    (quieted (get_or c.args.seats.now.places c.args.number place.Free))
    (parked_within c.args.seats.now.places c.args.number c.args.want (parked g (goal.at.returns-clause-asked g c).Else-eq))
    (quieted_nothing (get_or c.args.seats.now.places c.args.number place.Free)) c.quiet.ensures.places
