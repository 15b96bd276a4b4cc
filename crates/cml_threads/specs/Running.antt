-- A run of a hall's calls.
use Rattle.std.specs.Prelude.{◌≡◌, ℕ, Bool, false, not, List, [], ◌∷◌}
use Rattle.std.specs.List.{list_all}
use Rattle.cml_board.specs.{Call}
use Rattle.cml_board.specs.declared.outcome.Outcome.{Outcome}
use Rattle.cml_lanes.specs.{FloorCall, IsCalled, takes_journal}
use Rattle.cml_threads.specs.Seating.{Sitting}
use Rattle.cml_threads.specs.Hosting.{Hosted, floor_of, MayAsk, MayAskAgain}
use Rattle.cml_threads.specs.Asking.{Asks}

-- a call of a hall: that of a seat, with what the seat shows before and after it, what was asked for and what it told; the
-- same made again; a new seat; a seat that leaves; one that is due and was given; or a call that is its floor's, and of no
-- seat
pub data HallCall (M : Type 0) : Type 0 where
  Ask : Sitting → Sitting → Call M → Outcome M → HallCall M
  AskAgain : Sitting → Sitting → Call M → Outcome M → HallCall M
  NewSeat : HallCall M
  Leave : HallCall M
  NextDue : HallCall M
  OnFloor : FloorCall M → HallCall M

module _ {M : Type 0} where
  -- only what seats do, or who is due, has changed
  pub record KeepsFloor (old new : Hosted M) : Type 0 where
    pub board : new.board ≡ old.board
    pub lanes : new.lanes ≡ old.lanes
    pub feeds : new.feeds ≡ old.feeds
    pub book : new.book ≡ old.book

  -- the call was made, and this became of the hall
  abbrev pub IsMade : ℕ → Bool → HallCall M → Hosted M → Hosted M → Type 0
  IsMade chunk sure (Ask before after call told) old new = Asks chunk sure (MayAsk old before.number) old new before after call told
  IsMade chunk sure (AskAgain before after call told) old new =
      Asks chunk sure (MayAskAgain old before.number call) old new before after call told
  IsMade chunk sure NewSeat old new = KeepsFloor old new
  IsMade chunk sure Leave old new = KeepsFloor old new
  IsMade chunk sure NextDue old new = KeepsFloor old new
  IsMade chunk sure (OnFloor call) old new = IsCalled chunk sure call (floor_of old) (floor_of new) × (new.seats ≡ old.seats)

  -- the call hands the journal over
  abbrev pub hands_over : HallCall M → Bool
  hands_over (OnFloor call) = takes_journal call
  hands_over call = false

  -- none of the calls does
  abbrev pub keeps_entries : List (HallCall M) → Bool
  keeps_entries calls = list_all (λ call. not (hands_over call)) calls

  -- the calls were made in turn, and this became of the hall
  abbrev pub AreMade : ℕ → Bool → List (HallCall M) → Hosted M → Hosted M → Type 0
  AreMade chunk sure [] old new = new ≡ old
  AreMade chunk sure (call ∷ later) old new = (between : Hosted M) × IsMade chunk sure call old between
      × AreMade chunk sure later between new
