-- Who sleeps rightly still does, where the entries are the same, the journal has room still, and no lane was closed.
use Rattle.std.proofs.Common.{◌≡◌, ℕ, ◌+◌, ◌≤◌, ◌⊎◌, inl, inr, Bool, cond, List, [], ◌∷◌, ◌++◌, length, Option, Some, Result}
use Rattle.std.proofs.Common.{Ok, Err, subst, sym, ap, ◌∙◌, arith, length-append}
use Rattle.std.specs.Prelude.{⊤, min, is_some, count_by, MatchResult}
use Rattle.std.proofs.lemmas.List.Sums.{sum_by-append}
use Rattle.cml_board.specs.{Entry, Name, Refusal, Cuts, entries_in, HasRoom, IsAsBefore, full_at, Waits}
use Rattle.cml_board.specs.Shown.{Shown}
use Rattle.cml_board.specs.declared.outcome.Refusal.TheVariants.{NoSuch}
use Rattle.cml_lanes.specs.{LaneShown, Ended, FloorShown, NoSuchOr, FindsNoFeed, OpensALane, CutsFloor, CutsAFloor, CutsOpenFloor, NotCut}
use Rattle.cml_lanes.specs.{Reserves, IsFloorAsBefore}
use Rattle.cml_lanes.specs.Feeds.{Ends}
use Rattle.cml_room.specs.{Place, Waiter, states_in, IsMate, NoneOpen, AreIdle, WouldWait, AreAt, IsWatched}

-- what holds of both reasons holds of each refusal
pub by_reason : {P : Type 0} (none : Type 0) (why : Refusal → Type 0) (refusal : Refusal) → (none → P)
    → (why refusal → P) → NoSuchOr none why refusal → P
by_reason none why NoSuch first second is = first is
by_reason none why refusal first second is = second is

-- a lane more is one that is open
one_open : {X : Type 0} (lanes : List (Option X)) (lane : X) → count_by is_some (lanes ++ Some lane ∷ []) ≡ 0 → ⊥
one_open lanes lane none = absurd (omega (arith, none, sum_by-append (λ o. cond (is_some o) 1 0) lanes (Some lane ∷ [])))

module _ {M : Type 0} where
  still_rests : (old new : Shown M) (places : List Place) (waiter : Waiter) → new.history ≡ old.history → (HasRoom old → HasRoom new)
      → WouldWait old waiter.want ⊎ IsMate places waiter.want → WouldWait new waiter.want ⊎ IsMate places waiter.want
  still_rests old new places waiter history room (inl would) =
      inl (record { waits = subst (λ h. Waits h waiter.want) (sym history) would.waits; room = room would.room })
  still_rests old new places waiter history room (inr mate) = inr mate

  pub same_watched : (old new : FloorShown M) (places : List Place) (all_due : Bool) → IsWatched old places all_due
      → new.board.history ≡ old.board.history
      → (HasRoom old.board → HasRoom new.board) → (NoneOpen new.lanes → NoneOpen old.lanes) → IsWatched new places all_due
  same_watched old new places all_due was history room lanes = record {
    placed = subst (λ h. AreAt h places) (sym history) was.placed;
    rests = λ none number waiter quiet. still_rests old.board new.board places waiter history room (was.rests none number waiter quiet);
    stalls = λ none number waiter quiet stalled.
        was.stalls none number waiter quiet (lanes stalled.0, subst (λ h. AreIdle h (states_in places)) history stalled.1);
  }

  same_floor_watched : (old new : FloorShown M) (places : List Place) (all_due : Bool) → new ≡ old
      → IsWatched old places all_due → IsWatched new places all_due
  same_floor_watched old new places all_due same was = subst (λ (f : FloorShown M). IsWatched f places all_due) (sym same) was

  -- the history, the past and the limit are the same: the journal has as much room
  same_room : (old new : Shown M) → new.history ≡ old.history → new.past ≡ old.past → new.limit ≡ old.limit → HasRoom old → HasRoom new
  same_room old new history past limit room =
      let full : full_at new ≡ full_at old = ap (λ p. min (entries_in p + new.limit) 18446744073709551615) past
      ∙ ap (λ l. min (entries_in old.past + l) 18446744073709551615) limit in
      omega (arith, room, full, ap entries_in history)

  -- the board is as it was
  pub room_kept : (old new : Shown M) → IsAsBefore old new → HasRoom old → HasRoom new
  room_kept old new same room = same_room old new same.history same.past same.limit room

  -- a cut makes room
  more_room : (old new : Shown M) → entries_in old.past ≤ entries_in old.history → new.history ≡ old.history → new.past ≡ old.history
      → new.limit ≡ old.limit → HasRoom old → HasRoom new
  more_room old new within history past limit room =
      let full : full_at new ≡ min (entries_in old.history + old.limit) 18446744073709551615 =
      ap (λ p. min (entries_in p + new.limit) 18446744073709551615) past
      ∙ ap (λ l. min (entries_in old.history + l) 18446744073709551615) limit in
      omega (arith, room, within, full, ap entries_in history)

  cut_watched : (old new : FloorShown M) (places : List Place) (all_due : Bool)
      → entries_in old.board.past ≤ entries_in old.board.history → Cuts old.board new.board → new.lanes ≡ old.lanes
      → IsWatched old places all_due → IsWatched new places all_due
  cut_watched old new places all_due past cut lanes was =
      same_watched old new places all_due was cut.history (more_room old.board new.board past cut.history cut.past cut.limit)
      (λ none. subst NoneOpen lanes none)

  not_cut_watched : (old new : FloorShown M) (places : List Place) (all_due : Bool) (refusal : Refusal) → NotCut old new refusal
      → IsWatched old places all_due → IsWatched new places all_due
  not_cut_watched old new places all_due refusal not was = same_floor_watched old new places all_due not.2 was

  past_within : (journal past history : List (Entry M)) → journal ++ past ≡ history → entries_in past ≤ entries_in history
  past_within journal past history all = omega (arith, length-append journal past, ap length all)

  pub cuts_watched : (old new : FloorShown M) (places : List Place) (all_due : Bool) (journal : List (Entry M)) (told : Result ⊤ Refusal)
      → journal ++ old.board.past ≡ old.board.history → CutsAFloor old new told
      → IsWatched old places all_due → IsWatched new places all_due
  cuts_watched old new places all_due journal (Ok done) all cut was =
      cut_watched old new places all_due (past_within journal old.board.past old.board.history all) cut.board cut.lanes was
  cuts_watched old new places all_due journal (Err refusal) all not was = not_cut_watched old new places all_due refusal not was

  pub taken_watched : {X : Type 0} (old new : FloorShown M) (places : List Place) (all_due : Bool)
      (journal : X → List (Entry M)) (told : Result X Refusal)
      → MatchResult told (λ taken. journal taken ++ old.board.past ≡ old.board.history) (λ _. ⊤)
      → MatchResult told (λ _. CutsFloor old new) (NotCut old new) → IsWatched old places all_due → IsWatched new places all_due
  taken_watched old new places all_due journal (Ok taken) all cut was =
      cut_watched old new places all_due (past_within (journal taken) old.board.past old.board.history all) cut.board cut.lanes was
  taken_watched old new places all_due journal (Err refusal) all not was = not_cut_watched old new places all_due refusal not was

  pub cut_open_watched : (old new : FloorShown M) (places : List Place) (all_due : Bool) (journal : List (Entry M))
      → journal ++ old.board.past ≡ old.board.history → CutsOpenFloor old new
      → IsWatched old places all_due → IsWatched new places all_due
  cut_open_watched old new places all_due journal all cut was =
      cut_watched old new places all_due (past_within journal old.board.past old.board.history all) cut.board cut.lanes was

  as_before_watched : (old new : FloorShown M) (places : List Place) (all_due : Bool) → IsFloorAsBefore old new
      → IsWatched old places all_due → IsWatched new places all_due
  as_before_watched old new places all_due same was =
      same_watched old new places all_due was same.board.history (room_kept old.board new.board same.board)
      (λ none. subst NoneOpen same.lanes none)

  pub reserved_watched : (old new : FloorShown M) (places : List Place) (all_due : Bool) (n : ℕ) (told : Result ⊤ Refusal)
      → Reserves old new n told
      → IsWatched old places all_due → IsWatched new places all_due
  reserved_watched old new places all_due n (Ok done) same was = as_before_watched old new places all_due same.0 was
  reserved_watched old new places all_due n (Err refusal) same was = as_before_watched old new places all_due same.0 was

  pub opened_watched : (old new : FloorShown M) (places : List Place) (all_due : Bool) (target : Name) (capacity : ℕ)
      (told : Result (LaneShown M × ℕ) Refusal)
      → OpensALane old new target capacity told → IsWatched old places all_due → IsWatched new places all_due
  opened_watched old new places all_due target capacity (Ok lane) opens was =
      same_watched old new places all_due was (ap (λ (b : Shown M). b.history) opens.board) (λ room. subst HasRoom (sym opens.board) room)
      (λ none. absurd (one_open old.lanes _ (subst NoneOpen opens.lanes none)))
  opened_watched old new places all_due target capacity (Err refusal) not was = same_floor_watched old new places all_due not.1 was

  pub ended_watched : (old new : FloorShown M) (places : List Place) (all_due : Bool) (number : ℕ)
      (told : Result (Option (Ended M)) Refusal)
      → Ends number old new told → IsWatched old places all_due → IsWatched new places all_due
  ended_watched old new places all_due number (Ok end) ends was =
      same_watched old new places all_due was (ap (λ (f : FloorShown M). f.board.history) ends.floor)
      (λ room. subst (λ (f : FloorShown M). HasRoom f.board) (sym ends.floor) room)
      (λ none. subst (λ (f : FloorShown M). NoneOpen f.lanes) ends.floor none)
  ended_watched old new places all_due number (Err refusal) not was =
      by_reason (FindsNoFeed number old new) (λ other. ⊥) refusal
      (λ none. same_floor_watched old new places all_due none.1 was) (λ never. absurd never) not
