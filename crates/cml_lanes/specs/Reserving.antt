-- Memory that a floor reserves, and the calls that need no other.
use Rattle.std.specs.Prelude.{ℕ, ◌≡◌, ◌-◌, ◌<◌, ◌≤◌, Bool, true, false, not, ◌||◌, List, slice_get, Some, Result, Ok, Err, ⊤}
use Rattle.cml_board.specs.{Call, Entry, Refusal, entries_in, makes_object, fills_chunk, shares, IsAsBefore}
use Rattle.cml_board.specs.Shown.{Shown}
use Rattle.cml_board.specs.declared.call.Call.TheVariants.{Recv}
use Rattle.cml_board.specs.declared.outcome.Refusal.TheVariants.{NoMemory}
use Rattle.cml_lanes.specs.Sides.{LaneSide, FeedSide, way_call}
use Rattle.cml_lanes.specs.Floor.{FloorShown}

module _ {M : Type 0} where
  -- the floor is as it was, and no reserved memory is lost
  pub record IsFloorAsBefore (old new : FloorShown M) : Type 0 where
    pub board : IsAsBefore old.board new.board
    pub lanes : new.lanes ≡ old.lanes
    pub feeds : new.feeds ≡ old.feeds

  -- how a reservation ends: memory for `n` entries is reserved; or there is no memory, and less was reserved before. All else
  -- is as it was
  abbrev pub Reserves : FloorShown M → FloorShown M → ℕ → Result ⊤ Refusal → Type 0
  Reserves old new n (Ok done) = IsFloorAsBefore old new × (n ≤ new.board.reserved)
  Reserves old new n (Err refusal) = IsFloorAsBefore old new × (refusal ≡ NoMemory) × (old.board.reserved < n)

  -- how many entries were added
  abbrev pub added_since : Shown M → Shown M → ℕ
  added_since old new = entries_in new.history - entries_in old.history

  -- the call allocates memory only for its entry: sharing a message allocates none if its share is sure
  pub record TakesEntryAlone (chunk : ℕ) (sure : Bool) (history : List (Entry M)) (call : Call M) : Type 0 where
    pub makes_none : makes_object history call ≡ false
    pub fills_none : fills_chunk chunk history call ≡ false
    pub shares_none : (sure || not (shares history call)) ≡ true

  -- so does the call that moves the next message seen on an open lane
  abbrev pub LaneTakesEntryAlone : ℕ → Bool → FloorShown M → ℕ → Type 0
  LaneTakesEntryAlone chunk sure floor number =
      (side : LaneSide M) (message : M) → slice_get floor.lanes number ≡ Some (Some side) → slice_get side.seen 0 ≡ Some message
      → TakesEntryAlone chunk sure floor.board.history (way_call side.way side.target message)

  -- so does the call that receives the next message of an open feed's port
  abbrev pub FeedTakesEntryAlone : ℕ → Bool → FloorShown M → ℕ → Type 0
  FeedTakesEntryAlone chunk sure floor number =
      (side : FeedSide M) → slice_get floor.feeds number ≡ Some (Some side)
      → TakesEntryAlone chunk sure floor.board.history (Recv side.port)
