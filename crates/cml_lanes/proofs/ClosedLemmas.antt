-- What is closed or ended stays so over a run of calls, and gets no entry more.
use Rattle.std.proofs.Common.{◌≡◌, ◌≢◌, ℕ, zero, suc, ◌<◌, ◌≤◌, Bool, true, false, List, [], ◌∷◌, ◌++◌, length, slice_get, slice_set}
use Rattle.std.proofs.Common.{Option, Some, None, refl, sym, ap, ◌∙◌, arith, Result, Ok, Err}
use Rattle.std.proofs.lemmas.Bool.{true≢false}
use Rattle.std.proofs.lemmas.List.{length_push}
use Rattle.std.specs.Prelude.{⊤}
use Rattle.cml_board.specs.{Refusal, Call, Entry, Applies}
use Rattle.cml_board.specs.declared.outcome.Outcome.{Outcome}
use Rattle.cml_board.specs.Shown.{Shown}
use Rattle.cml_board.specs.declared.call.Call.TheVariants.{NewPort}
use Rattle.cml_board.specs.declared.entry.Who.TheVariants.{Seat, Feed}
use Rattle.cml_board.specs.declared.entry.Reply.TheVariants.{Made}
use Rattle.cml_board.specs.declared.outcome.Outcome.TheVariants.{Answered, WouldWait, Refused}
use Rattle.cml_lanes.specs.{laned, fed, FloorShown, is_taken, is_open_lane, is_open_feed, OnPlace, is_barred, CutsAFloor, CutsOpenFloor}
use Rattle.cml_lanes.specs.{FloorCall, Apply, Reserve, OpenLane, Drain, CloseLane, CloseCounted, DropLane, AbandonLane, OpenFeed, Pump}
use Rattle.cml_lanes.specs.{EndFeed, Cut, TakeJournal, CutOpen, TakeJournalOpen}
use Rattle.cml_lanes.specs.{AppliesSeat, IsCalled, AreCalled, Deed, as_it_was}
use Rattle.cml_lanes.specs.{lane_drained, lane_gone, lane_opened, feed_pumped, feed_gone, feed_opened}
use Rattle.cml_lanes.proofs.SlotsLemmas.{same_length}
use Rattle.cml_lanes.proofs.LaningLemmas.{laned_other, laned_apart}
use Rattle.cml_lanes.proofs.FeedEntriesLemmas.{fed_other, fed_apart, laned_fed, fed_laned}
use Rattle.cml_lanes.proofs.FeedOpensLemmas.{none_fed}
use Rattle.cml_lanes.proofs.DeedsLemmas.{still, reserves, opens_lane, drains, drops, abandons, closes, closes_counted}
use Rattle.cml_lanes.proofs.DeedsLemmas.{opens_feed, pumps, ends}

module _ {Side : Type 0} where
  -- what a call does to the places of lanes or of feeds: nothing; or one place gets something else, but nothing if it was empty;
  -- or there is one place more
  data Touches (old new : List (Option Side)) : Type 0 where
    untouched : new ≡ old → Touches old new
    set : (number : ℕ) (slot : Option Side) → (is_taken (Some slot) ≡ true → is_taken (slice_get old number) ≡ true)
        → new ≡ slice_set old number slot → Touches old new
    pushed : (slot : Option Side) → new ≡ old ++ slot ∷ [] → Touches old new

  placed : {left : Side → Option Side} {number : ℕ} {old new : List (Option Side)} {Does : Side → Side → Type 0}
      → OnPlace left number old new Does
      → Touches old new
  placed {left} {number} on = set number (left on.to) (λ taken. ap is_taken on.opened) on.places

  emptied : (old new : List (Option Side)) (number : ℕ) → new ≡ slice_set old number None → Touches old new
  emptied old new number same = set number None (λ never. absurd (true≢false (sym never))) same

  -- what is done to one place is done to another one than this
  another_place : {left : Side → Option Side} {number : ℕ} {old new : List (Option Side)} {Does : Side → Side → Type 0} (k : ℕ)
      → OnPlace left number old new Does
      → is_taken (slice_get old k) ≡ false → k ≢ number
  another_place {left} {number} {old} k on free =
      λ same. true≢false (sym (ap is_taken on.opened) ∙ ap (λ n. is_taken (slice_get old n)) (sym same) ∙ free)

  slot_stays : (slot was : Option Side) → (is_taken (Some slot) ≡ true → is_taken (Some was) ≡ true) → is_taken (Some was) ≡ false
      → is_taken (Some slot) ≡ false
  slot_stays None was taken free = refl
  slot_stays (Some side) was taken free = absurd (true≢false (sym (taken refl) ∙ free))

  -- an empty place stays empty
  set_stays : (slots : List (Option Side)) (number : ℕ) (slot : Option Side) (k : ℕ)
      → (is_taken (Some slot) ≡ true → is_taken (slice_get slots number) ≡ true) → is_taken (slice_get slots k) ≡ false
      → is_taken (slice_get (slice_set slots number slot) k) ≡ false
  set_stays [] number slot k taken free = refl
  set_stays (s ∷ slots) zero slot zero taken free = slot_stays slot s taken free
  set_stays (s ∷ slots) zero slot (suc k) taken free = free
  set_stays (s ∷ slots) (suc number) slot zero taken free = free
  set_stays (s ∷ slots) (suc number) slot (suc k) taken free = set_stays slots number slot k taken free

  pushed_stays : (slots : List (Option Side)) (slot : Option Side) (k : ℕ) → k < length slots → is_taken (slice_get slots k) ≡ false
      → is_taken (slice_get (slots ++ slot ∷ []) k) ≡ false
  pushed_stays [] slot k within free = absurd (omega (arith, within))
  pushed_stays (s ∷ slots) slot zero within free = free
  pushed_stays (s ∷ slots) slot (suc k) within free = pushed_stays slots slot k (omega (arith, within)) free

  -- so it does by a call, and there are as many places or more
  touched_lasts : (k : ℕ) (old new : List (Option Side)) → Touches old new → k < length old → is_taken (slice_get old k) ≡ false
      → (is_taken (slice_get new k) ≡ false) × (length old ≤ length new)
  touched_lasts k old new (untouched same) within free =
      (ap (λ slots. is_taken (slice_get slots k)) same ∙ free, omega (arith, ap length same))
  touched_lasts k old new (set number slot taken same) within free = (
    ap (λ slots. is_taken (slice_get slots k)) same ∙ set_stays old number slot k taken free,
    omega (arith, ap length same, same_length old number slot),
  )
  touched_lasts k old new (pushed slot same) within free = (
    ap (λ slots. is_taken (slice_get slots k)) same ∙ pushed_stays old slot k within free,
    omega (arith, ap length same, length_push old slot),
  )

module _ {M : Type 0} where
  -- what a call leaves of lanes and feeds: their places, and the entries of those that were not open
  record Leaves (old new : FloorShown M) : Type 0 where
    pub lanes : Touches old.lanes new.lanes
    pub feeds : Touches old.feeds new.feeds
    pub closed : (k : ℕ) → is_open_lane old k ≡ false → laned new.board.history k ≡ laned old.board.history k
    pub ended : (k : ℕ) → is_open_feed old k ≡ false → fed new.board.history k ≡ fed old.board.history k

  -- it makes no entry
  none_leaves : (old new : FloorShown M) → Touches old.lanes new.lanes → Touches old.feeds new.feeds
      → new.board.history ≡ old.board.history → Leaves old new
  none_leaves old new lanes feeds same = record {
    lanes = lanes;
    feeds = feeds;
    closed = λ k free. ap (λ h. laned h k) same;
    ended = λ k free. ap (λ h. fed h k) same;
  }

  deed_leaves : (old new : FloorShown M) → Deed old new → Leaves old new
  deed_leaves old new (as_it_was after lanes feeds) = none_leaves old new (untouched lanes) (untouched feeds) after.history
  deed_leaves old new (lane_drained left number count on) =
      let side = on.place.does.looked in
      let moves = on.place.does.moves in
      record {
        lanes = placed on.place;
        feeds = untouched on.feeds;
        closed = λ k free. ap (λ h. laned h k) moves.history
            ∙ laned_apart number side.way side.target moves.moved old.board.history k (another_place k on.place free);
        ended = λ k free. ap (λ h. fed h k) moves.history ∙ fed_laned number side.way side.target moves.moved old.board.history k;
      }
  deed_leaves old new (lane_gone number same) =
      none_leaves old new (emptied old.lanes new.lanes number (ap (λ (f : FloorShown M). f.lanes) same))
      (untouched (ap (λ (f : FloorShown M). f.feeds) same))
      (ap (λ (f : FloorShown M). f.board.history) same)
  deed_leaves old new (lane_opened side board lanes feeds) =
      none_leaves old new (pushed (Some side) lanes) (untouched feeds) (ap (λ (b : Shown M). b.history) board)
  deed_leaves old new (feed_pumped number count on) =
      let side = on.place.does.looked in
      let pumps = on.place.does.pumps in
      record {
        lanes = untouched on.lanes;
        feeds = placed on.place;
        closed = λ k free. ap (λ h. laned h k) pumps.history ∙ laned_fed number side.port pumps.pumped old.board.history k;
        ended = λ k free. ap (λ h. fed h k) pumps.history
            ∙ fed_apart number side.port pumps.pumped old.board.history k (another_place k on.place free);
      }
  deed_leaves old new (feed_gone number same) =
      none_leaves old new (untouched (ap (λ (f : FloorShown M). f.lanes) same))
      (emptied old.feeds new.feeds number (ap (λ (f : FloorShown M). f.feeds) same))
      (ap (λ (f : FloorShown M). f.board.history) same)
  deed_leaves old new (feed_opened number channel port side makes lanes feeds) = record {
    lanes = untouched lanes;
    feeds = pushed (Some side) feeds;
    closed = λ k free. ap (λ h. laned h k) makes.entry.history
        ∙ laned_other (record { who = Feed number; call = NewPort channel; reply = Made port }) old.board.history k refl;
    ended = λ k free. ap (λ h. fed h k) makes.entry.history ∙ none_fed number channel port old.board.history k;
  }

  -- a call of a seat makes no entry of a lane or of a feed
  seat_adds : (chunk : ℕ) (sure : Bool) (old new : Shown M) (seat : ℕ) (call : Call M) (outcome : Outcome M) (k : ℕ)
      → Applies chunk sure old new (Seat seat) call outcome
      → (laned new.history k ≡ laned old.history k) × (fed new.history k ≡ fed old.history k)
  seat_adds chunk sure old new seat call (Answered answer) k applies = (
    ap (λ h. laned h k) applies.5.history ∙ laned_other (record { who = Seat seat; call = call; reply = answer.reply }) old.history k refl,
    ap (λ h. fed h k) applies.5.history ∙ fed_other (record { who = Seat seat; call = call; reply = answer.reply }) old.history k refl,
  )
  seat_adds chunk sure old new seat call (WouldWait back) k applies =
      (ap (λ h. laned h k) applies.4.history, ap (λ h. fed h k) applies.4.history)
  seat_adds chunk sure old new seat call (Refused refusal back) k applies =
      (ap (λ h. laned h k) applies.2.history, ap (λ h. fed h k) applies.2.history)

  seat_same : (chunk : ℕ) (sure : Bool) (old new : FloorShown M) (seat : ℕ) (call : Call M) (outcome : Outcome M) (k : ℕ) (barred : Bool)
      → is_barred old.feeds call ≡ barred
      → AppliesSeat chunk sure seat call old new outcome
      → (laned new.board.history k ≡ laned old.board.history k) × (fed new.board.history k ≡ fed old.board.history k)
  seat_same chunk sure old new seat call outcome k true is applies =
      let same : new ≡ old = (applies.barred is).1 in
      (ap (λ (f : FloorShown M). laned f.board.history k) same, ap (λ (f : FloorShown M). fed f.board.history k) same)
  seat_same chunk sure old new seat call outcome k false is applies =
      seat_adds chunk sure old.board new.board seat call outcome k (applies.applied is)

  cut_leaves : (old new : FloorShown M) (result : Result ⊤ Refusal) → CutsAFloor old new result → Leaves old new
  cut_leaves old new (Ok done) told = none_leaves old new (untouched told.lanes) (untouched told.feeds) told.board.history
  cut_leaves old new (Err refusal) told = deed_leaves old new (still old new told.2)

  cut_open_leaves : (old new : FloorShown M) → CutsOpenFloor old new → Leaves old new
  cut_open_leaves old new cut = none_leaves old new (untouched cut.lanes) (untouched cut.feeds) cut.board.history

  -- each call does so
  call_leaves : (chunk : ℕ) (sure : Bool) (call : FloorCall M) (old new : FloorShown M) → IsCalled chunk sure call old new → Leaves old new
  call_leaves chunk sure (Apply seat call outcome) old new applies = record {
    lanes = untouched applies.lanes;
    feeds = untouched applies.feeds;
    closed = λ k free. (seat_same chunk sure old new seat call outcome k (is_barred old.feeds call) refl applies).0;
    ended = λ k free. (seat_same chunk sure old new seat call outcome k (is_barred old.feeds call) refl applies).1;
  }
  call_leaves chunk sure (Reserve n result) old new told = deed_leaves old new (reserves old new n result told)
  call_leaves chunk sure (OpenLane target capacity result) old new told =
      deed_leaves old new (opens_lane old new target capacity result told)
  call_leaves chunk sure (Drain lane result) old new told = deed_leaves old new (drains chunk sure lane old new result told)
  call_leaves chunk sure (CloseLane end result) old new told = deed_leaves old new (closes chunk sure old new end result told)
  call_leaves chunk sure (CloseCounted end result) old new told = deed_leaves old new (closes_counted chunk sure old new end result told)
  call_leaves chunk sure (DropLane lane result) old new told = deed_leaves old new (drops chunk sure lane old new result told)
  call_leaves chunk sure (AbandonLane lane result) old new told = deed_leaves old new (abandons lane old new result told)
  call_leaves chunk sure (OpenFeed channel capacity result) old new told =
      deed_leaves old new (opens_feed chunk sure old new channel capacity result told)
  call_leaves chunk sure (Pump feed result) old new told = deed_leaves old new (pumps chunk sure feed old new result told)
  call_leaves chunk sure (EndFeed feed result) old new told = deed_leaves old new (ends feed old new result told)
  call_leaves chunk sure (Cut result) old new told = cut_leaves old new result told.0
  call_leaves chunk sure (TakeJournal result) old new told = cut_leaves old new result told
  call_leaves chunk sure CutOpen old new told = cut_open_leaves old new told.0
  call_leaves chunk sure TakeJournalOpen old new told = cut_open_leaves old new told

  -- over a run: of these places, and what the journal has of them
  run_lasts : {Side : Type 0} (slots : FloorShown M → List (Option Side)) (entries : List (Entry M) → ℕ → List M)
      → ((old new : FloorShown M) → Leaves old new → Touches (slots old) (slots new)
      × ((k : ℕ) → is_taken (slice_get (slots old) k) ≡ false → entries new.board.history k ≡ entries old.board.history k))
      → (chunk : ℕ) (sure : Bool) (calls : List (FloorCall M)) (old new : FloorShown M) (k : ℕ) → AreCalled chunk sure calls old new
      → k < length (slots old) → is_taken (slice_get (slots old) k) ≡ false
      → (is_taken (slice_get (slots new) k) ≡ false) × (entries new.board.history k ≡ entries old.board.history k)
  run_lasts slots entries leaves chunk sure [] old new k same within free =
      (ap (λ (f : FloorShown M). is_taken (slice_get (slots f) k)) same ∙ free, ap (λ (f : FloorShown M). entries f.board.history k) same)
  run_lasts slots entries leaves chunk sure (call ∷ later) old new k run within free =
      let one = leaves old run.0 (call_leaves chunk sure call old run.0 run.1) in
      let next = touched_lasts k (slots old) (slots run.0) one.0 within free in
      let rest = run_lasts slots entries leaves chunk sure later run.0 new k run.2 (omega (arith, within, next.1)) next.0 in
      (rest.0, rest.1 ∙ one.1 k free)

  pub lanes_last : (chunk : ℕ) (sure : Bool) (calls : List (FloorCall M)) (old new : FloorShown M) (k : ℕ)
      → AreCalled chunk sure calls old new
      → k < length old.lanes → is_open_lane old k ≡ false
      → (is_open_lane new k ≡ false) × (laned new.board.history k ≡ laned old.board.history k)
  lanes_last chunk sure calls old new k run within free =
      run_lasts (λ floor. floor.lanes) laned (λ before after leaves. (leaves.lanes, leaves.closed)) chunk
      sure calls old new k run within free

  pub feeds_last : (chunk : ℕ) (sure : Bool) (calls : List (FloorCall M)) (old new : FloorShown M) (k : ℕ)
      → AreCalled chunk sure calls old new
      → k < length old.feeds → is_open_feed old k ≡ false
      → (is_open_feed new k ≡ false) × (fed new.board.history k ≡ fed old.board.history k)
  feeds_last chunk sure calls old new k run within free =
      run_lasts (λ floor. floor.feeds) fed (λ before after leaves. (leaves.feeds, leaves.ended)) chunk sure calls old new k run within free
