-- What becomes of the call of a seat that may make it.
use Rattle.std.proofs.Common.{◌≡◌, ℕ, ◌⊎◌, inl, inr, Bool, true, false, List, slice_set, Some, refl, sym, ap, subst}
use Rattle.std.specs.Prelude.{⊤}
use Rattle.cml_board.specs.{Call, Answer, Refusal, Want, want_in, Applies}
use Rattle.cml_board.specs.declared.outcome.Outcome.{Outcome}
use Rattle.cml_board.specs.declared.entry.Who.TheVariants.{Seat}
use Rattle.cml_board.specs.declared.outcome.Outcome.TheVariants.{Answered, WouldWait, Refused}
use Rattle.cml_board.specs.declared.outcome.Refusal.TheVariants.{Gone, Busy, NoSuch, WrongKind, JournalFull, Stalled, NoMemory, Unseen}
use Rattle.cml_lanes.specs.{FloorShown, is_barred}
use Rattle.cml_room.specs.{Notice, State, SeatsShown, states_in, NoneOpen, AreIdle, IsStalled, RoomShown, floor_of, Moves}
use Rattle.cml_room.specs.{Reaches, IsBarred, Asks, with_seats}
use Rattle.cml_room.specs.declared.state.State.TheVariants.{Free, Parked}

module _ {M : Type 0} where
  pub may_ask : (chunk : ℕ) (sure : Bool) (may : Type 0) (old new : RoomShown M) (number : ℕ) (call : Call M) (told : Outcome M)
      → may → Asks chunk sure ⊤ old new number call told → Asks chunk sure may old new number call told
  may_ask chunk sure may old new number call (Answered answer) can turn = (can, turn.1, turn.2, turn.3, turn.4)
  may_ask chunk sure may old new number call (WouldWait back) can turn = (can, turn.1, turn.2, turn.3, turn.4, turn.5)
  may_ask chunk sure may old new number call (Refused Gone back) can turn = elim (turn.0 tt) [ ]
  may_ask chunk sure may old new number call (Refused Stalled back) can turn = (can, turn.1, turn.2, turn.3, turn.4, turn.5)
  may_ask chunk sure may old new number call (Refused Busy back) can turn = (can, turn.1, turn.2)
  may_ask chunk sure may old new number call (Refused NoSuch back) can turn = (can, turn.1, turn.2)
  may_ask chunk sure may old new number call (Refused WrongKind back) can turn = (can, turn.1, turn.2)
  may_ask chunk sure may old new number call (Refused JournalFull back) can turn = (can, turn.1, turn.2)
  may_ask chunk sure may old new number call (Refused NoMemory back) can turn = (can, turn.1, turn.2)
  may_ask chunk sure may old new number call (Refused Unseen back) can turn = (can, turn.1, turn.2)

  -- a call that isn't refused is not barred
  reached : (chunk : ℕ) (sure : Bool) (old new : FloorShown M) (number : ℕ) (call : Call M) (outcome : Outcome M) (barred : Bool)
      → is_barred old.feeds call ≡ barred
      → ((refusal : Refusal) (back : Call M) → outcome ≡ Refused refusal back → ⊥)
      → (is_barred old.feeds call ≡ true → (outcome ≡ Refused WrongKind call) × (new ≡ old))
      → (is_barred old.feeds call ≡ false → Applies chunk sure old.board new.board (Seat number) call outcome)
      → Reaches chunk sure old new number call outcome
  reached chunk sure old new number call outcome true is never bars applies = absurd (never WrongKind call (bars is).0)
  reached chunk sure old new number call outcome false is never bars applies = record { free = is; applies = applies is }

  pub answered_reaches : (chunk : ℕ) (sure : Bool) (old new : FloorShown M) (number : ℕ) (call : Call M) (answer : Answer M)
      → (is_barred old.feeds call ≡ true → (Answered answer ≡ Refused WrongKind call) × (new ≡ old))
      → (is_barred old.feeds call ≡ false → Applies chunk sure old.board new.board (Seat number) call (Answered answer))
      → Reaches chunk sure old new number call (Answered answer)
  answered_reaches chunk sure old new number call answer =
      reached chunk sure old new number call (Answered answer) (is_barred old.feeds call) refl (λ refusal back same. cc)

  pub waiting_reaches : (chunk : ℕ) (sure : Bool) (old new : FloorShown M) (number : ℕ) (call back : Call M)
      → (is_barred old.feeds call ≡ true → (WouldWait back ≡ Refused WrongKind call) × (new ≡ old))
      → (is_barred old.feeds call ≡ false → Applies chunk sure old.board new.board (Seat number) call (WouldWait back))
      → Reaches chunk sure old new number call (WouldWait back)
  waiting_reaches chunk sure old new number call back =
      reached chunk sure old new number call (WouldWait back) (is_barred old.feeds call) refl (λ refusal same_back same. cc)

  -- a call that is refused was refused by the board, or is barred
  refused_cases : (chunk : ℕ) (sure : Bool) (old new : FloorShown M) (number : ℕ) (call back : Call M) (refusal : Refusal) (barred : Bool)
      → is_barred old.feeds call ≡ barred
      → (is_barred old.feeds call ≡ true → (Refused refusal back ≡ Refused WrongKind call) × (new ≡ old))
      → (is_barred old.feeds call ≡ false → Applies chunk sure old.board new.board (Seat number) call (Refused refusal back))
      → Reaches chunk sure old new number call (Refused refusal back) ⊎ IsBarred old new call refusal back
  refused_cases chunk sure old new number call back refusal true is bars applies =
      let told : Refused refusal back ≡ Refused WrongKind call = (bars is).0 in
      inr (record { barred = is; wrong = cc; same = cc; board = ap (λ (f : FloorShown M). f.board) (bars is).1 })
  refused_cases chunk sure old new number call back refusal false is bars applies = inl (record { free = is; applies = applies is })

  pub refused_reaches : (chunk : ℕ) (sure : Bool) (old new : FloorShown M) (number : ℕ) (call back : Call M) (refusal : Refusal)
      → (is_barred old.feeds call ≡ true → (Refused refusal back ≡ Refused WrongKind call) × (new ≡ old))
      → (is_barred old.feeds call ≡ false → Applies chunk sure old.board new.board (Seat number) call (Refused refusal back))
      → Reaches chunk sure old new number call (Refused refusal back) ⊎ IsBarred old new call refusal back
  refused_reaches chunk sure old new number call back refusal =
      refused_cases chunk sure old new number call back refusal (is_barred old.feeds call) refl

  -- whether all are stalled stays, where no lane and no entry is another
  still_stalled : (old new : FloorShown M) (seats : List State) → new.lanes ≡ old.lanes → new.board.history ≡ old.board.history
      → IsStalled new seats → IsStalled old seats
  still_stalled old new seats lanes history stalled = (
    subst NoneOpen lanes stalled.0,
    subst (λ h. AreIdle h seats) history stalled.1,
  )

  -- a room of these parts
  abbrev pub room_of : FloorShown M → List State → List Notice → Bool → RoomShown M
  room_of floor seats notices all_due =
      record { board = floor.board; lanes = floor.lanes; feeds = floor.feeds; seats = seats; notices = notices; all_due = all_due }

  -- what becomes of the call by what became of it on the floor
  pub answered_asks : (chunk : ℕ) (sure : Bool) (room : RoomShown M) (floor new : FloorShown M) (olds lates : SeatsShown) (number : ℕ)
      (call : Call M) (answer : Answer M) → with_seats floor olds ≡ room
      → Reaches chunk sure floor new number call (Answered answer)
      → new.lanes ≡ floor.lanes → new.feeds ≡ floor.feeds → states_in lates.places ≡ slice_set (states_in olds.places) number Free
      → Asks chunk sure ⊤ room (with_seats new lates) number call (Answered answer)
  answered_asks chunk sure room floor new olds lates number call answer view reaches lanes feeds set =
      subst (λ (r : RoomShown M). Asks chunk sure ⊤ r (with_seats new lates) number call (Answered answer)) view
      (tt, reaches, set, lanes, feeds)

  pub parked_asks : (chunk : ℕ) (sure : Bool) (room : RoomShown M) (floor new : FloorShown M) (olds lates : SeatsShown) (number : ℕ)
      (call back : Call M) (on : Want) → with_seats floor olds ≡ room
      → Reaches chunk sure floor new number call (WouldWait back) → want_in call ≡ Some on
      → new.lanes ≡ floor.lanes → new.feeds ≡ floor.feeds
      → ¬ (IsStalled new (slice_set (states_in olds.places) number (Parked on)))
      × (states_in lates.places ≡ slice_set (states_in olds.places) number (Parked on))
      → Asks chunk sure ⊤ room (with_seats new lates) number call (WouldWait back)
  parked_asks chunk sure room floor new olds lates number call back on view reaches wants lanes feeds goes_on =
      let moving : ¬ (IsStalled floor (slice_set (states_in olds.places) number (Parked on))) = λ stalled.
      goes_on.0 (still_stalled new floor _ (sym lanes) (sym reaches.applies.4.history) stalled) in
      subst (λ (r : RoomShown M). Asks chunk sure ⊤ r (with_seats new lates) number call (WouldWait back)) view
      (tt, reaches, on, wants, moving, record { seats = goes_on.1; lanes = lanes; feeds = feeds })

  pub stalled_asks : (chunk : ℕ) (sure : Bool) (room : RoomShown M) (floor new : FloorShown M) (olds lates : SeatsShown) (number : ℕ)
      (call back : Call M) (on : Want) → with_seats floor olds ≡ room
      → Reaches chunk sure floor new number call (WouldWait back) → want_in call ≡ Some on
      → new.lanes ≡ floor.lanes → new.feeds ≡ floor.feeds
      → IsStalled new (slice_set (states_in olds.places) number (Parked on))
      × (states_in lates.places ≡ slice_set (states_in olds.places) number Free)
      → Asks chunk sure ⊤ room (with_seats new lates) number call (Refused Stalled back)
  stalled_asks chunk sure room floor new olds lates number call back on view reaches wants lanes feeds stuck =
      subst (λ (r : RoomShown M). Asks chunk sure ⊤ r (with_seats new lates) number call (Refused Stalled back)) view (
        tt,
        reaches,
        on,
        wants,
        still_stalled floor new _ lanes reaches.applies.4.history stuck.0,
        record { seats = stuck.1; lanes = lanes; feeds = feeds },
      )

  -- neither the board nor a feed gives the refusals of a room
  by_refusal : (chunk : ℕ) (sure : Bool) (old new : RoomShown M) (number : ℕ) (call back : Call M) (refusal : Refusal)
      → Reaches chunk sure (floor_of old) (floor_of new) number call (Refused refusal back)
      ⊎ IsBarred (floor_of old) (floor_of new) call refusal back
      → Moves old new number Free → Asks chunk sure ⊤ old new number call (Refused refusal back)
  by_refusal chunk sure old new number call back Gone (inl reaches) moves = absurd reaches.applies.0
  by_refusal chunk sure old new number call back Gone (inr barred) moves = absurd (let clash : Gone ≡ WrongKind = barred.wrong in cc)
  by_refusal chunk sure old new number call back Stalled (inl reaches) moves = absurd reaches.applies.0
  by_refusal chunk sure old new number call back Stalled (inr barred) moves = absurd (let clash : Stalled ≡ WrongKind = barred.wrong in cc)
  by_refusal chunk sure old new number call back Busy why moves = (tt, why, moves)
  by_refusal chunk sure old new number call back NoSuch why moves = (tt, why, moves)
  by_refusal chunk sure old new number call back WrongKind why moves = (tt, why, moves)
  by_refusal chunk sure old new number call back JournalFull why moves = (tt, why, moves)
  by_refusal chunk sure old new number call back NoMemory why moves = (tt, why, moves)
  by_refusal chunk sure old new number call back Unseen why moves = (tt, why, moves)

  pub refused_asks : (chunk : ℕ) (sure : Bool) (room : RoomShown M) (floor new : FloorShown M) (olds lates : SeatsShown) (number : ℕ)
      (call back : Call M) (refusal : Refusal) → with_seats floor olds ≡ room
      → Reaches chunk sure floor new number call (Refused refusal back) ⊎ IsBarred floor new call refusal back
      → new.lanes ≡ floor.lanes → new.feeds ≡ floor.feeds → states_in lates.places ≡ slice_set (states_in olds.places) number Free
      → Asks chunk sure ⊤ room (with_seats new lates) number call (Refused refusal back)
  refused_asks chunk sure room floor new olds lates number call back refusal view why lanes feeds set =
      subst (λ (r : RoomShown M). Asks chunk sure ⊤ r (with_seats new lates) number call (Refused refusal back)) view
      (by_refusal chunk sure (with_seats floor olds) (with_seats new lates) number call back refusal why
      (record { seats = set; lanes = lanes; feeds = feeds }))
