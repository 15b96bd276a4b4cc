-- A run of a hall's calls is one of its floor's, and what was reserved lasts over it.
use Rattle.std.proofs.Common.{◌≡◌, ◌⊎◌, ℕ, ◌+◌, ◌<◌, ◌≤◌, inl, inr, Bool, true, not, List, [], ◌∷◌, ◌++◌, refl, sym, subst, ap, ◌∙◌}
use Rattle.std.proofs.lemmas.Bool.{true≢false, and_from, and_parts}
use Rattle.cml_board.specs.{Call, Refusal}
use Rattle.cml_board.specs.declared.outcome.Outcome.{Outcome}
use Rattle.cml_board.specs.Shown.{Shown}
use Rattle.cml_board.specs.declared.outcome.Outcome.TheVariants as board
use Rattle.cml_board.specs.declared.outcome.Refusal.TheVariants.{Gone, Busy, NoSuch, WrongKind, JournalFull, Stalled, NoMemory, Unseen}
use Rattle.cml_lanes.specs.{FloorShown, HoldsUp, Starves, added_since, TakesEntryAlone, LaneTakesEntryAlone, FeedTakesEntryAlone, FloorCall}
use Rattle.cml_lanes.specs.{Apply, AppliesSeat, IsCalled, AreCalled, takes_journal, keeps_journal}
use Rattle.cml_lanes.proofs.ReservedLemmas.{reserved_lasts, seats_served, lanes_served, feeds_served}
use Rattle.cml_threads.specs.{Sitting, Hosted, floor_of, Asks, HallCall, Ask, AskAgain, NewSeat, Leave, NextDue, OnFloor, IsMade, AreMade}
use Rattle.cml_threads.specs.{hands_over, keeps_entries}
use Rattle.cml_room.specs.Room as room
use Rattle.cml_room.specs.{Reaches, IsBarred}

module _ {M : Type 0} where
  -- calls of the floor that do to it what the hall's did, and keep the journal if those do
  abbrev Under : ℕ → Bool → Bool → Hosted M → Hosted M → Type 0
  Under chunk sure keeps old new =
      (under : List (FloorCall M)) × AreCalled chunk sure under (floor_of old) (floor_of new) × (keeps ≡ true → keeps_journal under ≡ true)

  one_under : (chunk : ℕ) (sure : Bool) (old new : Hosted M) (call : FloorCall M) → IsCalled chunk sure call (floor_of old) (floor_of new)
      → Under chunk sure (not (takes_journal call)) old new
  one_under chunk sure old new call called =
      (call ∷ [], (floor_of new, called, refl), λ keeps. and_from (not (takes_journal call)) true keeps refl)

  keeps_both : (one two : List (FloorCall M)) → keeps_journal one ≡ true → keeps_journal two ≡ true → keeps_journal (one ++ two) ≡ true
  keeps_both [] two keeps more = more
  keeps_both (call ∷ later) two keeps more =
      let both = and_parts (not (takes_journal call)) (keeps_journal later) keeps in
      and_from (not (takes_journal call)) (keeps_journal (later ++ two)) both.0 (keeps_both later two both.1 more)

  both_under : (chunk : ℕ) (sure : Bool) (one two : List (FloorCall M)) (old mid new : FloorShown M) → AreCalled chunk sure one old mid
      → AreCalled chunk sure two mid new
      → AreCalled chunk sure (one ++ two) old new
  both_under chunk sure [] two old mid new same run = subst (λ (f : FloorShown M). AreCalled chunk sure two f new) same run
  both_under chunk sure (call ∷ later) two old mid new run rest = (run.0, run.1, both_under chunk sure later two run.0 mid new run.2 rest)

  same_floor : (old new : Hosted M) → new.board ≡ old.board → new.lanes ≡ old.lanes → new.feeds ≡ old.feeds → floor_of new ≡ floor_of old
  same_floor old new board lanes feeds =
      ap (λ (b : Shown M). record (floor_of new) { board = b }) board
      ∙ ap (λ ls. record (floor_of new) { board = old.board; lanes = ls }) lanes
      ∙ ap (λ fs. record (floor_of old) { feeds = fs }) feeds

  reached_applies : (chunk : ℕ) (sure : Bool) (old new : Hosted M) (number : ℕ) (call : Call M) (outcome : Outcome M)
      → Reaches chunk sure (floor_of old) (floor_of new) number call outcome → new.lanes ≡ old.lanes → new.feeds ≡ old.feeds
      → AppliesSeat chunk sure number call (floor_of old) (floor_of new) outcome
  reached_applies chunk sure old new number call outcome reaches lanes feeds = record {
    barred = λ is. absurd (true≢false (sym is ∙ reaches.free));
    applied = λ is. reaches.applies;
    lanes = lanes;
    feeds = feeds;
  }

  barred_applies : (chunk : ℕ) (sure : Bool) (old new : Hosted M) (number : ℕ) (call back : Call M) (refusal : Refusal)
      → IsBarred (floor_of old) (floor_of new) call refusal back → new.lanes ≡ old.lanes → new.feeds ≡ old.feeds
      → AppliesSeat chunk sure number call (floor_of old) (floor_of new) (board.Refused refusal back)
  barred_applies chunk sure old new number call back refusal barred lanes feeds = record {
    barred = λ is. (
      ap (λ r. board.Refused r back) barred.wrong ∙ ap (λ b. board.Refused WrongKind b) barred.same,
      same_floor old new barred.board lanes feeds,
    );
    applied = λ is. absurd (true≢false (sym barred.barred ∙ is));
    lanes = lanes;
    feeds = feeds;
  }

  refused_applies : (chunk : ℕ) (sure : Bool) (old new : Hosted M) (number : ℕ) (call back : Call M) (refusal : Refusal)
      → Reaches chunk sure (floor_of old) (floor_of new) number call (board.Refused refusal back)
      ⊎ IsBarred (floor_of old) (floor_of new) call refusal back
      → new.lanes ≡ old.lanes → new.feeds ≡ old.feeds
      → AppliesSeat chunk sure number call (floor_of old) (floor_of new) (board.Refused refusal back)
  refused_applies chunk sure old new number call back refusal (inl reaches) lanes feeds =
      reached_applies chunk sure old new number call (board.Refused refusal back) reaches lanes feeds
  refused_applies chunk sure old new number call back refusal (inr barred) lanes feeds =
      barred_applies chunk sure old new number call back refusal barred lanes feeds

  refused_under : (chunk : ℕ) (sure : Bool) (old new : Hosted M) (number : ℕ) (call back : Call M) (refusal : Refusal)
      → Reaches chunk sure (floor_of old) (floor_of new) number call (board.Refused refusal back)
      ⊎ IsBarred (floor_of old) (floor_of new) call refusal back
      → new.lanes ≡ old.lanes → new.feeds ≡ old.feeds → Under chunk sure true old new
  refused_under chunk sure old new number call back refusal why lanes feeds =
      one_under chunk sure old new (Apply number call (board.Refused refusal back))
      (refused_applies chunk sure old new number call back refusal why lanes feeds)

  -- by a seat's call
  asked_under : (chunk : ℕ) (sure : Bool) (may : Type 0) (old new : Hosted M) (before after : Sitting) (call : Call M) (told : Outcome M)
      → Asks chunk sure may old new before after call told → Under chunk sure true old new
  asked_under chunk sure may old new before after call (board.Answered answer) asks =
      one_under chunk sure old new (Apply before.number call (board.Answered answer))
      (reached_applies chunk sure old new before.number call (board.Answered answer) asks.0.1 asks.0.3 asks.0.4)
  asked_under chunk sure may old new before after call (board.WouldWait back) asks =
      one_under chunk sure old new (Apply before.number call (board.WouldWait back))
      (reached_applies chunk sure old new before.number call (board.WouldWait back) asks.0.1 asks.0.5.lanes asks.0.5.feeds)
  asked_under chunk sure may old new before after call (board.Refused Stalled back) asks =
      one_under chunk sure old new (Apply before.number call (board.WouldWait back))
      (reached_applies chunk sure old new before.number call (board.WouldWait back) asks.0.1 asks.0.5.lanes asks.0.5.feeds)
  asked_under chunk sure may old new before after call (board.Refused Gone back) asks = ([], ap room.floor_of asks.0.2, λ keeps. keeps)
  asked_under chunk sure may old new before after call (board.Refused Busy back) asks =
      refused_under chunk sure old new before.number call back Busy asks.0.1 asks.0.2.lanes asks.0.2.feeds
  asked_under chunk sure may old new before after call (board.Refused NoSuch back) asks =
      refused_under chunk sure old new before.number call back NoSuch asks.0.1 asks.0.2.lanes asks.0.2.feeds
  asked_under chunk sure may old new before after call (board.Refused WrongKind back) asks =
      refused_under chunk sure old new before.number call back WrongKind asks.0.1 asks.0.2.lanes asks.0.2.feeds
  asked_under chunk sure may old new before after call (board.Refused JournalFull back) asks =
      refused_under chunk sure old new before.number call back JournalFull asks.0.1 asks.0.2.lanes asks.0.2.feeds
  asked_under chunk sure may old new before after call (board.Refused NoMemory back) asks =
      refused_under chunk sure old new before.number call back NoMemory asks.0.1 asks.0.2.lanes asks.0.2.feeds
  asked_under chunk sure may old new before after call (board.Refused Unseen back) asks =
      refused_under chunk sure old new before.number call back Unseen asks.0.1 asks.0.2.lanes asks.0.2.feeds

  -- by one call
  made_under : (chunk : ℕ) (sure : Bool) (call : HallCall M) (old new : Hosted M) → IsMade chunk sure call old new
      → Under chunk sure (not (hands_over call)) old new
  made_under chunk sure (Ask before after call told) old new made = asked_under chunk sure _ old new before after call told made
  made_under chunk sure (AskAgain before after call told) old new made = asked_under chunk sure _ old new before after call told made
  made_under chunk sure NewSeat old new made = ([], same_floor old new made.board made.lanes made.feeds, λ keeps. keeps)
  made_under chunk sure Leave old new made = ([], same_floor old new made.board made.lanes made.feeds, λ keeps. keeps)
  made_under chunk sure NextDue old new made = ([], same_floor old new made.board made.lanes made.feeds, λ keeps. keeps)
  made_under chunk sure (OnFloor call) old new made = one_under chunk sure old new call made.0

  -- over a run
  calls_under : (chunk : ℕ) (sure : Bool) (calls : List (HallCall M)) (old new : Hosted M) → AreMade chunk sure calls old new
      → Under chunk sure (keeps_entries calls) old new
  calls_under chunk sure [] old new same = ([], ap floor_of same, λ keeps. keeps)
  calls_under chunk sure (call ∷ later) old new run =
      let one = made_under chunk sure call old run.0 run.1 in
      let rest = calls_under chunk sure later run.0 new run.2 in (
        one.0 ++ rest.0,
        both_under chunk sure one.0 rest.0 (floor_of old) (floor_of run.0) (floor_of new) one.1 rest.1,
        λ keeps. let both = and_parts (not (hands_over call)) (keeps_entries later) keeps in
            keeps_both one.0 rest.0 (one.2 both.0) (rest.2 both.1),
      )

  pub calls_floor : (chunk : ℕ) (sure : Bool) (calls : List (HallCall M)) (old new : Hosted M) → AreMade chunk sure calls old new
      → (under : List (FloorCall M)) × AreCalled chunk sure under (floor_of old) (floor_of new)
  calls_floor chunk sure calls old new run =
      let under = calls_under chunk sure calls old new run in
      (under.0, under.1)

  pub hall_lasts : (chunk : ℕ) (sure : Bool) (calls : List (HallCall M)) (old new : Hosted M)
      → AreMade chunk sure calls old new → keeps_entries calls ≡ true
      → old.board.reserved ≤ new.board.reserved + added_since old.board new.board
  hall_lasts chunk sure calls old new run keeps =
      let under = calls_under chunk sure calls old new run in
      reserved_lasts chunk sure under.0 (floor_of old) (floor_of new) under.1 (under.2 keeps)

  pub asks_served : (chunk : ℕ) (sure : Bool) (calls : List (HallCall M)) (old new after : Hosted M) (may : Type 0)
      (seat seat' : Sitting) (call back : Call M)
      → AreMade chunk sure calls old new → keeps_entries calls ≡ true → added_since old.board new.board < old.board.reserved
      → TakesEntryAlone chunk sure new.board.history call
      → ¬ (Asks chunk sure may new after seat seat' call (board.Refused NoMemory back))
  asks_served chunk sure calls old new after may seat seat' call back run keeps fewer takes = λ asks.
      let under = calls_under chunk sure calls old new run in
      seats_served chunk sure under.0 (floor_of old) (floor_of new)
      (floor_of after) seat.number call back under.1 (under.2 keeps) fewer takes
      (refused_applies chunk sure new after seat.number call back NoMemory asks.0.1 asks.0.2.lanes asks.0.2.feeds)

  pub hall_lanes_served : (chunk : ℕ) (sure : Bool) (calls : List (HallCall M)) (old new : Hosted M) (after : FloorShown M) (lane count : ℕ)
      → AreMade chunk sure calls old new
      → keeps_entries calls ≡ true → added_since old.board after.board < old.board.reserved → LaneTakesEntryAlone chunk sure after lane
      → ¬ (HoldsUp chunk sure lane count (floor_of new) after NoMemory)
  hall_lanes_served chunk sure calls old new after lane count run keeps =
      let under = calls_under chunk sure calls old new run in
      lanes_served chunk sure under.0 (floor_of old) (floor_of new) after lane count under.1 (under.2 keeps)

  pub hall_feeds_served : (chunk : ℕ) (sure : Bool) (calls : List (HallCall M)) (old new : Hosted M) (after : FloorShown M) (feed count : ℕ)
      → AreMade chunk sure calls old new
      → keeps_entries calls ≡ true → added_since old.board after.board < old.board.reserved → FeedTakesEntryAlone chunk sure after feed
      → ¬ (Starves chunk sure feed count (floor_of new) after NoMemory)
  hall_feeds_served chunk sure calls old new after feed count run keeps =
      let under = calls_under chunk sure calls old new run in
      feeds_served chunk sure under.0 (floor_of old) (floor_of new) after feed count under.1 (under.2 keeps)
