-- What a room shows of itself, and what a seat may do in it.
use Rattle.std.specs.Prelude.{ℕ, ◌≡◌, ◌&&◌, ◌||◌, ◌⊎◌, Bool, true, false, List, slice_get, slice_set, Option, Some, None}
use Rattle.cml_board.specs.{Call, Want, want_in}
use Rattle.cml_board.specs.Shown.{Shown}
use Rattle.cml_lanes.specs.{LaneSide, FeedSide, FloorShown}
use Rattle.cml_room.specs.declared.notice.Notice.{Notice}
use Rattle.cml_room.specs.declared.state.State.{State}
use Rattle.cml_room.specs.declared.state.State.TheVariants.{Free, Parked}
use Rattle.cml_room.specs.Places.{is_noted}
use Rattle.cml_room.specs.Stalling.{IsStalled}
use Rattle.cml_room.specs.Waking.{WouldWait}

-- the board; by its number the floor's end of each lane and of each feed, of open ones alone; the state of each seat, by
-- number, and its notice; and whether all that wait are due
pub record RoomShown (M : Type 0) : Type 0 where
  pub board : Shown M
  pub lanes : List (Option (LaneSide M))
  pub feeds : List (Option (FeedSide M))
  pub seats : List State
  pub notices : List Notice
  pub all_due : Bool

-- whether it waits
abbrev pub is_parked : Option State → Bool
is_parked (Some (Parked on)) = true
is_parked state = false

abbrev pub has_notice : Option Notice → Bool
has_notice (Some notice) = is_noted notice
has_notice None = false

module _ {M : Type 0} where
  -- the board with its lanes and feeds
  abbrev pub floor_of : RoomShown M → FloorShown M
  floor_of room = record { board = room.board; lanes = room.lanes; feeds = room.feeds }

  abbrev pub state_of : RoomShown M → ℕ → Option State
  state_of room number = slice_get room.seats number

  -- the seat waits, and has a notice; or all that wait are due, which is the alarm. What this means is said below and in
  -- `Running`: a seat that isn't due sleeps rightly, and which calls give a notice is in `Frames`
  abbrev pub is_due : RoomShown M → ℕ → Bool
  is_due room number = is_parked (state_of room number) && (room.all_due || has_notice (slice_get room.notices number))

  -- no seat has a notice, and it isn't so that all that wait are due
  pub record NoneDue (room : RoomShown M) : Type 0 where
    pub all : room.all_due ≡ false
    pub each : (seat : ℕ) → has_notice (slice_get room.notices seat) ≡ false

  -- another seat that waits for the very same is due
  pub record HasMate (room : RoomShown M) (on : Want) : Type 0 where
    pub number : ℕ
    pub waits : state_of room number ≡ Some (Parked on)
    pub due : is_due room number ≡ true

  -- a seat that waits for this sleeps rightly: what it waits for isn't there, and the journal has room, or another that waits
  -- for the very same is due; and there is no stall
  pub record SleepsRightly (room : RoomShown M) (on : Want) : Type 0 where
    pub rests : WouldWait room.board on ⊎ HasMate room on
    pub moves : ¬ (IsStalled (floor_of room) room.seats)

  -- each seat that waits and is not due sleeps rightly. Whether a due seat was woken is for the law in `Running`
  abbrev pub AllSleepRightly : RoomShown M → Type 0
  AllSleepRightly room = (number : ℕ) (on : Want) → state_of room number ≡ Some (Parked on)
      → is_due room number ≡ false → SleepsRightly room on

  -- the seats, where this one's state is this, and no other's is changed
  abbrev pub with_state : RoomShown M → ℕ → State → List State
  with_state room number state = slice_set room.seats number state

  -- the seat was made, and neither waits nor has left
  abbrev pub MayAsk : RoomShown M → ℕ → Type 0
  MayAsk room number = state_of room number ≡ Some Free

  -- the seat waits on such a call: of this kind, on this object
  abbrev pub MayAskAgain : RoomShown M → ℕ → Call M → Type 0
  MayAskAgain room number call = (on : Want) × (want_in call ≡ Some on) × (state_of room number ≡ Some (Parked on))

  -- with this seat counted as waiting too, there is a stall
  abbrev pub WouldStall : RoomShown M → ℕ → Want → Type 0
  WouldStall room number on = IsStalled (floor_of room) (with_state room number (Parked on))

  -- the seat's state is this now, and no other's has changed, nor a lane, nor a feed
  pub record Moves (old new : RoomShown M) (number : ℕ) (state : State) : Type 0 where
    pub seats : new.seats ≡ with_state old number state
    pub lanes : new.lanes ≡ old.lanes
    pub feeds : new.feeds ≡ old.feeds
