-- What a call leaves of the seats, said of the room.
use Rattle.std.proofs.Common.{◌≡◌, ℕ, Bool, slice_get, Option, Some, None, refl, sym, ap, subst, ◌∙◌}
use Rattle.cml_board.specs.{Call, HasRoom}
use Rattle.cml_board.specs.declared.outcome.Outcome.{Outcome}
use Rattle.cml_board.specs.declared.outcome.Outcome.TheVariants.{Answered, WouldWait, Refused}
use Rattle.cml_board.specs.declared.outcome.Refusal.TheVariants.{Gone, Busy, NoSuch, WrongKind, JournalFull, Stalled, NoMemory, Unseen}
use Rattle.cml_lanes.specs.{FloorShown}
use Rattle.cml_room.specs.declared.news.News.{News}
use Rattle.cml_room.specs.{Asks, KeepsSeats, Settles, Stirs, Turns, states_in, notices_in, RisesFew, MakesFewByOne, MakesNoneDue}
use Rattle.cml_room.specs.{RoomShown, AskOf, Other, IsMade, HasAsked, asked_by, was_woken, SeatsShown, IsStalled, with_seats}
use Rattle.cml_room.specs.declared.state.State.TheVariants as state
use Rattle.cml_room.proofs.RisingLemmas.{few_due, few_of, none_by, none_same}

module _ {M : Type 0} where
  -- nothing of the seats is changed
  pub keeps : (floor floor' : FloorShown M) (seats : SeatsShown) {room : RoomShown M} → with_seats floor seats ≡ room
      → KeepsSeats room (with_seats floor' seats)
  keeps floor floor' seats view = record {
    seats = ap (λ (r : RoomShown M). r.seats) view;
    step = λ seat. ap (λ (r : RoomShown M). was_woken r.notices seat) view;
    notices = ap (λ (r : RoomShown M). r.notices) view;
    alarm = ap (λ (r : RoomShown M). r.all_due) view;
  }

  -- a call of no seat
  stirs : (Few : RoomShown M → RoomShown M → Type 0) (room : RoomShown M) (floor floor' : FloorShown M)
      (olds lates : SeatsShown) (news : Option News)
      → with_seats floor olds ≡ room → Settles news floor' olds lates → Few room (with_seats floor' lates)
      → Stirs Few room (with_seats floor' lates)
  stirs Few room floor floor' olds lates news view settles few = record {
    seats = settles.states ∙ ap (λ (r : RoomShown M). r.seats) view;
    step = λ seat. settles.woken seat ∙ ap (λ (r : RoomShown M). was_woken r.notices seat) view;
    few = few;
    alarm = λ has moves.
        settles.alarm has (λ stalled. moves (subst (IsStalled floor') (sym settles.states) stalled))
        ∙ ap (λ (r : RoomShown M). r.all_due) view;
  }

  pub stirs_few : (floor : FloorShown M) {room : RoomShown M} {floor' : FloorShown M} {olds lates : SeatsShown}
      → with_seats floor olds ≡ room
      → (news : Option News) × Settles news floor' olds lates → Stirs MakesFewByOne room (with_seats floor' lates)
  stirs_few floor {room} {floor'} {olds} {lates} view told = stirs MakesFewByOne room floor floor' olds lates told.0 view told.1 (
    told.0,
    few_due room floor floor' olds.places lates.places olds.all_due lates.all_due (λ on. ⊥) told.0 view told.1.few,
  )

  pub stirs_none : (floor : FloorShown M) {room : RoomShown M} {floor' : FloorShown M} {olds lates : SeatsShown}
      → with_seats floor olds ≡ room → Settles None floor' olds lates → Stirs MakesNoneDue room (with_seats floor' lates)
  stirs_none floor {room} {floor'} {olds} {lates} view settles =
      stirs MakesNoneDue room floor floor' olds lates None view settles
      (none_by room (with_seats floor' lates)
      (few_due room floor floor' olds.places lates.places olds.all_due lates.all_due (λ on. ⊥) None view settles.few))

  -- a seat's turn
  pub turns : (room : RoomShown M) (floor floor' : FloorShown M) (olds lates : SeatsShown) (number : ℕ) (news : Option News)
      → with_seats floor olds ≡ room → HasAsked number (notices_in olds.places) (notices_in lates.places)
      → RisesFew floor'.board.history news
      (λ on. slice_get (states_in olds.places) number ≡ Some (state.Parked on)) olds.places lates.places
      → (HasRoom floor'.board → lates.all_due ≡ olds.all_due)
      → Turns number (AskOf number) news room (with_seats floor' lates)
  turns room floor floor' olds lates number news view asked few alarm = record {
    step = subst (λ (r : RoomShown M). HasAsked number r.notices (notices_in lates.places)) view asked;
    few = few_of room floor floor' olds.places lates.places olds.all_due lates.all_due number news view few;
    alarm = λ has. alarm has ∙ ap (λ (r : RoomShown M). r.all_due) view;
  }

  -- a call that fails with `Gone` changes nothing
  pub turns_not : (room : RoomShown M) (number : ℕ) (news : Option News) → Turns number Other news room room
  turns_not room number news = record {
    step = λ seat. refl;
    few = record {
      why = λ k on due. absurd (none_same room k on due);
      one = λ single j k on first second. absurd (none_same room j on first);
    };
    alarm = λ has. refl;
  }

  -- any other that may be made is a step by which the seat asks
  step_heard : (chunk : ℕ) (sure : Bool) (may : Type 0) (old new : RoomShown M) (number : ℕ) (call : Call M) (told : Outcome M)
      → Asks chunk sure may old new number call told → IsMade (AskOf number) old new → IsMade (asked_by number told) old new
  step_heard chunk sure may old new number call (Answered answer) asks asked = asked
  step_heard chunk sure may old new number call (WouldWait back) asks asked = asked
  step_heard chunk sure may old new number call (Refused Gone back) asks asked =
      λ seat. ap (λ (r : RoomShown M). was_woken r.notices seat) asks.2
  step_heard chunk sure may old new number call (Refused Busy back) asks asked = asked
  step_heard chunk sure may old new number call (Refused NoSuch back) asks asked = asked
  step_heard chunk sure may old new number call (Refused WrongKind back) asks asked = asked
  step_heard chunk sure may old new number call (Refused JournalFull back) asks asked = asked
  step_heard chunk sure may old new number call (Refused Stalled back) asks asked = asked
  step_heard chunk sure may old new number call (Refused NoMemory back) asks asked = asked
  step_heard chunk sure may old new number call (Refused Unseen back) asks asked = asked

  pub turns_heard : (chunk : ℕ) (sure : Bool) (may : Type 0) (old new : RoomShown M) (number : ℕ) (call : Call M)
      (told : Outcome M) (news : Option News)
      → Asks chunk sure may old new number call told → Turns number (AskOf number) news old new
      → Turns number (asked_by number told) news old new
  turns_heard chunk sure may old new number call told news asks made =
      record { step = step_heard chunk sure may old new number call told asks made.step; few = made.few; alarm = made.alarm }
