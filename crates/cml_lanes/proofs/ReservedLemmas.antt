-- What was reserved lasts over a run of a floor's calls.
use Rattle.std.proofs.Common.{◌≡◌, ℕ, ◌+◌, ◌<◌, ◌≤◌, Bool, true, false, List, [], ◌∷◌, length, refl, subst, ap, ◌∙◌, arith, not, Result, Ok}
use Rattle.std.proofs.Common.{Err}
use Rattle.std.specs.Prelude.{⊤}
use Rattle.std.proofs.lemmas.Bool.{and_parts, false≢true}
use Rattle.cml_board.specs.{Call, Entry, Who, Refusal, entries_in, IsSpared, IsAsBefore, Applies}
use Rattle.cml_board.specs.declared.outcome.Outcome.{Outcome}
use Rattle.cml_board.specs.Shown.{Shown}
use Rattle.cml_board.specs.declared.call.Call.TheVariants.{Recv}
use Rattle.cml_board.specs.declared.outcome.Outcome.TheVariants.{Answered, WouldWait, Refused}
use Rattle.cml_board.specs.declared.outcome.Refusal.TheVariants.{NoMemory}
use Rattle.cml_lanes.specs.{way_call, with_entries, Enters, FloorShown, is_barred, HoldsUp, Starves, added_since, TakesEntryAlone}
use Rattle.cml_lanes.specs.{LaneTakesEntryAlone, FeedTakesEntryAlone, CutsAFloor, CutsOpenFloor, FloorCall, Apply, Reserve, OpenLane}
use Rattle.cml_lanes.specs.{Drain, CloseLane, CloseCounted, DropLane, AbandonLane, OpenFeed, Pump, EndFeed, Cut, TakeJournal, CutOpen}
use Rattle.cml_lanes.specs.{TakeJournalOpen, AppliesSeat, IsCalled, AreCalled}
use Rattle.cml_lanes.specs.{takes_journal, keeps_journal, Deed, as_it_was}
use Rattle.cml_lanes.specs.{lane_drained, lane_gone, lane_opened, feed_pumped, feed_gone, feed_opened}
use Rattle.cml_lanes.proofs.OneSlotLemmas.{stays_there}
use Rattle.cml_lanes.proofs.EnteredLemmas.{counted}
use Rattle.cml_lanes.proofs.DeedsLemmas.{still, reserves, opens_lane, drains, drops, abandons, closes, closes_counted, opens_feed, pumps}
use Rattle.cml_lanes.proofs.DeedsLemmas.{ends}

module _ {M : Type 0} where
  pub entries_more : (entry : M → Entry M) (messages : List M) (history : List (Entry M))
      → entries_in (with_entries entry messages history) ≡ entries_in history + length messages
  entries_more entry = counted entry entries_in (λ message h. omega arith)

  -- no entry is lost, and of what was reserved one by each that is added
  pub record Lasts (old new : Shown M) : Type 0 where
    pub grown : entries_in old.history ≤ entries_in new.history
    pub kept : old.reserved + entries_in old.history ≤ new.reserved + entries_in new.history

  pub lasts_same : (old new : Shown M) → new ≡ old → Lasts old new
  lasts_same old new same = record {
    grown = omega (arith, ap (λ (b : Shown M). entries_in b.history) same);
    kept = omega (arith, ap (λ (b : Shown M). entries_in b.history) same, ap (λ (b : Shown M). b.reserved) same);
  }

  pub lasts_before : (old new : Shown M) → IsAsBefore old new → Lasts old new
  lasts_before old new after = record {
    grown = omega (arith, ap entries_in after.history);
    kept = omega (arith, ap entries_in after.history, after.reserved);
  }

  pub lasts_on : (old mid new : Shown M) → Lasts old mid → Lasts mid new → Lasts old new
  lasts_on old mid new one two = record { grown = omega (arith, one.grown, two.grown); kept = omega (arith, one.kept, two.kept) }

  lasts_entered : {entry : M → Entry M} {messages : List M} {count : ℕ} {old new : Shown M} → Enters entry messages count old new
      → Lasts old new
  lasts_entered {entry} {messages} {old = old} {new = new} e =
      let entries : entries_in new.history ≡ entries_in old.history + length messages =
      ap entries_in e.history ∙ entries_more entry messages old.history in
      record { grown = omega (arith, entries); kept = omega (arith, entries, e.as_many, e.reserved) }

  -- whatever was done
  lasts_done : (old new : FloorShown M) → Deed old new → Lasts old.board new.board
  lasts_done old new (as_it_was after lanes feeds) = lasts_before old.board new.board after
  lasts_done old new (lane_drained left number count on) = lasts_entered on.place.does.moves.entered
  lasts_done old new (lane_gone number same) = lasts_same old.board new.board (ap (λ (f : FloorShown M). f.board) same)
  lasts_done old new (lane_opened side board lanes feeds) = lasts_same old.board new.board board
  lasts_done old new (feed_pumped number count on) = lasts_entered on.place.does.pumps.entered
  lasts_done old new (feed_gone number same) = lasts_same old.board new.board (ap (λ (f : FloorShown M). f.board) same)
  lasts_done old new (feed_opened number channel port side makes lanes feeds) = record {
    grown = omega (arith, ap entries_in makes.entry.history);
    kept = omega (arith, ap entries_in makes.entry.history, makes.entry.reserved);
  }

  -- by a seat's call
  lasts_applied : (chunk : ℕ) (sure : Bool) (old new : Shown M) (who : Who) (call : Call M) (outcome : Outcome M)
      → Applies chunk sure old new who call outcome → Lasts old new
  lasts_applied chunk sure old new who call (Refused refusal back) applies = lasts_before old new applies.2
  lasts_applied chunk sure old new who call (WouldWait back) applies = lasts_before old new applies.4
  lasts_applied chunk sure old new who call (Answered answer) applies = record {
    grown = omega (arith, ap entries_in applies.5.history);
    kept = omega (arith, ap entries_in applies.5.history, applies.5.reserved);
  }

  lasts_asked : (chunk : ℕ) (sure : Bool) (old new : FloorShown M) (seat : ℕ) (call : Call M) (outcome : Outcome M) (barred : Bool)
      → is_barred old.feeds call ≡ barred
      → AppliesSeat chunk sure seat call old new outcome → Lasts old.board new.board
  lasts_asked chunk sure old new seat call outcome true is applies =
      lasts_same old.board new.board (ap (λ (f : FloorShown M). f.board) (applies.barred is).1)
  lasts_asked chunk sure old new seat call outcome false is applies =
      lasts_applied chunk sure old.board new.board _ call outcome (applies.applied is)

  -- by a cut that keeps the journal's memory
  lasts_cut : (old new : FloorShown M) (result : Result ⊤ Refusal) → CutsAFloor old new result
      → old.board.reserved ≤ new.board.reserved → Lasts old.board new.board
  lasts_cut old new (Ok done) told kept = record {
    grown = omega (arith, ap entries_in told.board.history);
    kept = omega (arith, ap entries_in told.board.history, kept);
  }
  lasts_cut old new (Err refusal) told kept = lasts_done old new (still old new told.2)

  lasts_cut_open : (old new : FloorShown M) → CutsOpenFloor old new → old.board.reserved ≤ new.board.reserved
      → Lasts old.board new.board
  lasts_cut_open old new cut kept = record {
    grown = omega (arith, ap entries_in cut.board.history);
    kept = omega (arith, ap entries_in cut.board.history, kept);
  }

  -- by one call
  lasts_once : (chunk : ℕ) (sure : Bool) (call : FloorCall M) (old new : FloorShown M) → not (takes_journal call) ≡ true
      → IsCalled chunk sure call old new → Lasts old.board new.board
  lasts_once chunk sure (Apply seat call outcome) old new keeps told =
      lasts_asked chunk sure old new seat call outcome (is_barred old.feeds call) refl told
  lasts_once chunk sure (Reserve n result) old new keeps told = lasts_done old new (reserves old new n result told)
  lasts_once chunk sure (OpenLane target capacity result) old new keeps told =
      lasts_done old new (opens_lane old new target capacity result told)
  lasts_once chunk sure (Drain lane result) old new keeps told = lasts_done old new (drains chunk sure lane old new result told)
  lasts_once chunk sure (CloseLane end result) old new keeps told = lasts_done old new (closes chunk sure old new end result told)
  lasts_once chunk sure (CloseCounted end result) old new keeps told =
      lasts_done old new (closes_counted chunk sure old new end result told)
  lasts_once chunk sure (DropLane lane result) old new keeps told = lasts_done old new (drops chunk sure lane old new result told)
  lasts_once chunk sure (AbandonLane lane result) old new keeps told = lasts_done old new (abandons lane old new result told)
  lasts_once chunk sure (OpenFeed channel capacity result) old new keeps told =
      lasts_done old new (opens_feed chunk sure old new channel capacity result told)
  lasts_once chunk sure (Pump feed result) old new keeps told = lasts_done old new (pumps chunk sure feed old new result told)
  lasts_once chunk sure (EndFeed feed result) old new keeps told = lasts_done old new (ends feed old new result told)
  lasts_once chunk sure (Cut result) old new keeps told = lasts_cut old new result told.0 told.1
  lasts_once chunk sure (TakeJournal result) old new keeps told = absurd (false≢true keeps)
  lasts_once chunk sure CutOpen old new keeps told = lasts_cut_open old new told.0 told.1
  lasts_once chunk sure TakeJournalOpen old new keeps told = absurd (false≢true keeps)

  -- over a run
  pub lasts_all : (chunk : ℕ) (sure : Bool) (calls : List (FloorCall M)) (old new : FloorShown M) → AreCalled chunk sure calls old new
      → keeps_journal calls ≡ true → Lasts old.board new.board
  lasts_all chunk sure [] old new same keeps = lasts_same old.board new.board (ap (λ (f : FloorShown M). f.board) same)
  lasts_all chunk sure (call ∷ later) old new run keeps =
      let both = and_parts (not (takes_journal call)) (keeps_journal later) keeps in
      lasts_on old.board run.0.board new.board (lasts_once chunk sure call old run.0 both.0 run.1)
      (lasts_all chunk sure later run.0 new run.2 both.1)

  pub reserved_lasts : (chunk : ℕ) (sure : Bool) (calls : List (FloorCall M)) (old new : FloorShown M)
      → AreCalled chunk sure calls old new → keeps_journal calls ≡ true
      → old.board.reserved ≤ new.board.reserved + added_since old.board new.board
  reserved_lasts chunk sure calls old new run keeps =
      let all = lasts_all chunk sure calls old new run keeps in
      omega (arith, all.grown, all.kept)

  -- a call that takes its entry alone is spared while fewer entries were added than reserved
  pub spared : (chunk : ℕ) (sure : Bool) (old at new : Shown M) (call : Call M) → Lasts old at → new.history ≡ at.history
      → added_since old new < old.reserved
      → TakesEntryAlone chunk sure new.history call → IsSpared chunk sure at call
  spared chunk sure old at new call lasts same fewer takes =
      let here : TakesEntryAlone chunk sure at.history call = subst (λ h. TakesEntryAlone chunk sure h call) same takes in
      record {
        reserved = omega (arith, lasts.grown, lasts.kept, ap entries_in same, fewer);
        makes_none = here.makes_none;
        fills_none = here.fills_none;
        shares_none = here.shares_none;
      }

  seat_served : (chunk : ℕ) (sure : Bool) (old : Shown M) (new after : FloorShown M) (seat : ℕ) (call back : Call M) (barred : Bool)
      → is_barred new.feeds call ≡ barred
      → Lasts old new.board → added_since old new.board < old.reserved → TakesEntryAlone chunk sure new.board.history call
      → ¬ (AppliesSeat chunk sure seat call new after (Refused NoMemory back))
  seat_served chunk sure old new after seat call back true is lasts fewer takes = λ applies.
      let wrong : Refused NoMemory back ≡ _ = (applies.barred is).0 in
      cc
  seat_served chunk sure old new after seat call back false is lasts fewer takes = λ applies.
      (applies.applied is).0.3 (spared chunk sure old new.board new.board call lasts refl fewer takes)

  pub seats_served : (chunk : ℕ) (sure : Bool) (calls : List (FloorCall M)) (old new after : FloorShown M) (seat : ℕ) (call back : Call M)
      → AreCalled chunk sure calls old new → keeps_journal calls ≡ true
      → added_since old.board new.board < old.board.reserved → TakesEntryAlone chunk sure new.board.history call
      → ¬ (AppliesSeat chunk sure seat call new after (Refused NoMemory back))
  seats_served chunk sure calls old new after seat call back run keeps =
      seat_served chunk sure old.board new after seat call back (is_barred new.feeds call) refl
      (lasts_all chunk sure calls old new run keeps)

  -- nor does want of memory stop a lane or a feed
  pub lanes_served : (chunk : ℕ) (sure : Bool) (calls : List (FloorCall M)) (old new after : FloorShown M) (lane count : ℕ)
      → AreCalled chunk sure calls old new → keeps_journal calls ≡ true
      → added_since old.board after.board < old.board.reserved → LaneTakesEntryAlone chunk sure after lane
      → ¬ (HoldsUp chunk sure lane count new after NoMemory)
  lanes_served chunk sure calls old new after lane count run keeps fewer takes = λ held.
      let stops = held.place.does.stops in
      let now = lasts_on old.board new.board stops.at (lasts_all chunk sure calls old new run keeps) (lasts_entered stops.moves.entered) in
      stops.refused.3 (spared chunk sure old.board stops.at after.board (way_call held.place.to.way held.place.to.target stops.message) now
      stops.after.history fewer (takes held.place.to stops.message (stays_there held.place) stops.next))

  pub feeds_served : (chunk : ℕ) (sure : Bool) (calls : List (FloorCall M)) (old new after : FloorShown M) (feed count : ℕ)
      → AreCalled chunk sure calls old new → keeps_journal calls ≡ true
      → added_since old.board after.board < old.board.reserved → FeedTakesEntryAlone chunk sure after feed
      → ¬ (Starves chunk sure feed count new after NoMemory)
  feeds_served chunk sure calls old new after feed count run keeps fewer takes = λ starved.
      let balks = starved.place.does.balks in
      let now = lasts_on old.board new.board balks.at (lasts_all chunk sure calls old new run keeps) (lasts_entered balks.pumps.entered) in
      balks.refused.3 (spared chunk sure old.board balks.at after.board (Recv starved.place.to.port) now balks.after.history fewer
      (takes starved.place.to (stays_there starved.place)))
