-- A run of a floor's calls.
use Rattle.std.specs.Prelude.{ℕ, ◌≡◌, ◌≤◌, Bool, true, false, not, ◌&&◌, List, [], ◌∷◌, Option, Result, ⊤}
use Rattle.cml_board.specs.{Name, Call, Refusal, Applies}
use Rattle.cml_board.specs.declared.outcome.Outcome.{Outcome}
use Rattle.cml_board.specs.declared.entry.Who.TheVariants.{Seat}
use Rattle.cml_board.specs.declared.outcome.Outcome.TheVariants.{Refused}
use Rattle.cml_board.specs.declared.outcome.Refusal.TheVariants.{WrongKind}
use Rattle.cml_lanes.specs.Ends.{LaneShown, FeedShown, Ended}
use Rattle.cml_lanes.specs.Floor.{FloorShown}
use Rattle.cml_lanes.specs.Barring.{is_barred}
use Rattle.cml_lanes.specs.Lanes.{OpensALane, Drains, Closes, ClosesCounted, Drops, Abandons}
use Rattle.cml_lanes.specs.Feeds.{OpensAFeed, Pumps, Ends}
use Rattle.cml_lanes.specs.Reserving.{Reserves}
use Rattle.cml_lanes.specs.Cutting.{CutsAFloor, CutsOpenFloor}

-- a call of a floor, what it was given, and what it told
pub data FloorCall (M : Type 0) : Type 0 where
  Apply : ℕ → Call M → Outcome M → FloorCall M
  Reserve : ℕ → Result ⊤ Refusal → FloorCall M
  OpenLane : Name → ℕ → Result (LaneShown M × ℕ) Refusal → FloorCall M
  Drain : ℕ → Result ℕ Refusal → FloorCall M
  CloseLane : Ended M → Result ⊤ (Ended M × Refusal) → FloorCall M
  CloseCounted : Ended M → Result ⊤ (Ended M × Refusal) → FloorCall M
  DropLane : ℕ → Result (ℕ × Bool) Refusal → FloorCall M
  AbandonLane : ℕ → Result ⊤ Refusal → FloorCall M
  OpenFeed : Name → ℕ → Result (FeedShown M × ℕ) Refusal → FloorCall M
  Pump : ℕ → Result ℕ Refusal → FloorCall M
  EndFeed : ℕ → Result (Option (Ended M)) Refusal → FloorCall M
  Cut : Result ⊤ Refusal → FloorCall M
  TakeJournal : Result ⊤ Refusal → FloorCall M
  CutOpen : FloorCall M
  TakeJournalOpen : FloorCall M

module _ {M : Type 0} where
  -- a seat's call: an open feed bars it, or this is what becomes of it on the board; no lane or feed is changed
  pub record AppliesSeat (chunk : ℕ) (sure : Bool) (seat : ℕ) (call : Call M) (old new : FloorShown M) (outcome : Outcome M) : Type 0 where
    pub barred : is_barred old.feeds call ≡ true → (outcome ≡ Refused WrongKind call) × (new ≡ old)
    pub applied : is_barred old.feeds call ≡ false → Applies chunk sure old.board new.board (Seat seat) call outcome
    pub lanes : new.lanes ≡ old.lanes
    pub feeds : new.feeds ≡ old.feeds

  -- the call was made, and this became of the floor
  abbrev pub IsCalled : ℕ → Bool → FloorCall M → FloorShown M → FloorShown M → Type 0
  IsCalled chunk sure (Apply seat call outcome) old new = AppliesSeat chunk sure seat call old new outcome
  IsCalled chunk sure (Reserve n result) old new = Reserves old new n result
  IsCalled chunk sure (OpenLane target capacity result) old new = OpensALane old new target capacity result
  IsCalled chunk sure (Drain lane result) old new = Drains chunk sure lane old new result
  IsCalled chunk sure (CloseLane end result) old new = Closes chunk sure old new end result
  IsCalled chunk sure (CloseCounted end result) old new = ClosesCounted chunk sure old new end result
  IsCalled chunk sure (DropLane lane result) old new = Drops chunk sure lane old new result
  IsCalled chunk sure (AbandonLane lane result) old new = Abandons lane old new result
  IsCalled chunk sure (OpenFeed channel capacity result) old new = OpensAFeed chunk sure old new channel capacity result
  IsCalled chunk sure (Pump feed result) old new = Pumps chunk sure feed old new result
  IsCalled chunk sure (EndFeed feed result) old new = Ends feed old new result
  IsCalled chunk sure (Cut result) old new = CutsAFloor old new result × (old.board.reserved ≤ new.board.reserved)
  IsCalled chunk sure (TakeJournal result) old new = CutsAFloor old new result
  IsCalled chunk sure CutOpen old new = CutsOpenFloor old new × (old.board.reserved ≤ new.board.reserved)
  IsCalled chunk sure TakeJournalOpen old new = CutsOpenFloor old new

  -- the call hands the journal over, and with it the memory that stood reserved
  abbrev pub takes_journal : FloorCall M → Bool
  takes_journal (TakeJournal result) = true
  takes_journal TakeJournalOpen = true
  takes_journal call = false

  -- none of the calls does
  abbrev pub keeps_journal : List (FloorCall M) → Bool
  keeps_journal [] = true
  keeps_journal (call ∷ later) = not (takes_journal call) && keeps_journal later

  -- the calls were made in turn, and this became of the floor
  abbrev pub AreCalled : ℕ → Bool → List (FloorCall M) → FloorShown M → FloorShown M → Type 0
  AreCalled chunk sure [] old new = new ≡ old
  AreCalled chunk sure (call ∷ later) old new = (between : FloorShown M) × IsCalled chunk sure call old between
      × AreCalled chunk sure later between new
