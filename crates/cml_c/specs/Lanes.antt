-- What the calls on lanes return to C.
use Rattle.std.specs.Prelude.{ℕ, ◌≡◌, ◌<◌, ◌≤◌, ◌⊎◌, Bool, true, false, List, Some, [], ◌∷◌, ◌++◌, length, Result, Ok, Err, ⊤}
use Rattle.cml_board.specs.{Name, Refusal}
use Rattle.cml_lanes.specs.{FloorShown, KeepsRings, SameRing, LaneShown, Ended, OpensALane, ClosesCounted, Drops}
use Rattle.cml_room.specs.{RoomShown, floor_of, KeepsSeats, Stirs, MakesFewByOne}
use Rattle.cml_c.specs.declared.code.Code.{Code}
use Rattle.cml_c.specs.declared.code.Code.TheVariants.{Done, Gone, NoMemory, Full, StillOpen, OutOfBounds}
use Rattle.cml_c.specs.declared.handle.Slot.{Slot}
use Rattle.cml_c.specs.declared.owned.Owned.{Owned}
use Rattle.cml_c.specs.declared.owned.Resource.{Resource}
use Rattle.cml_c.specs.declared.owned.Resource.TheVariants.{Lane, LaneEnd, Spent}
use Rattle.cml_c.specs.Codes.{number, of_refusal, told_outcome}
use Rattle.cml_c.specs.Handles.{IsWrong, OnBytes, OnRoom, OnLane}
use Rattle.cml_c.specs.Asking.{chunk}
use Rattle.cml_c.specs.Messages.{NotCopied}

-- a ring may have room for this many messages
abbrev pub IsCapacity : ℕ → Type 0
IsCapacity capacity = (1 ≤ capacity) × (capacity ≤ 1024)

-- the number that is written of an opening
abbrev pub written_opened : {X : Type 0} → ℕ → Result (X × ℕ) Refusal → ℕ
written_opened before (Ok opened) = opened.1
written_opened before (Err refusal) = before

-- what the slot holds then: a handle to what was opened, or what it held before
abbrev pub LeavesOpened : {X : Type 0} → (X → Owned) → Slot → Slot → Result (X × ℕ) Refusal → Type 0
LeavesOpened wrap from to (Ok opened) = to.owned ≡ Some (wrap opened.0)
LeavesOpened wrap from to (Err refusal) = to ≡ from

-- this became of the opening, and of the rings and the seats
pub record Opens {M X : Type 0} (wrap : X → Owned) (becomes : FloorShown M → FloorShown M → Result (X × ℕ) Refusal → Type 0)
    (Leaves : RoomShown M → RoomShown M → Type 0) (from to : Slot) (code before after : ℕ) (old new : RoomShown M) : Type 0 where
  pub outcome : Result (X × ℕ) Refusal
  pub floor : becomes (floor_of old) (floor_of new) outcome
  pub seats : Leaves old new
  pub told : code ≡ number (told_outcome outcome)
  pub written : after ≡ written_opened before outcome
  pub slot : LeavesOpened wrap from to outcome

-- nothing was opened, for this reason, and the room and the slot are as they were
pub record NotOpened {M : Type 0} (reason : Code) (from to : Slot) (code before after : ℕ) (old new : RoomShown M) : Type 0 where
  pub told : code ≡ number reason
  pub written : after ≡ before
  pub room : new ≡ old
  pub slot : to ≡ from

-- the capacity is in its bounds, and this became of the opening, or there is no memory for the handle; or it is out of them
abbrev pub OpensIn : {M X : Type 0} → (X → Owned) → (FloorShown M → FloorShown M → Result (X × ℕ) Refusal → Type 0)
    → (RoomShown M → RoomShown M → Type 0) → ℕ → Slot → Slot → ℕ → ℕ → ℕ → RoomShown M → RoomShown M → Type 0
OpensIn wrap becomes Leaves capacity from to code before after old new =
    (IsCapacity capacity
    × (Opens wrap becomes Leaves from to code before after old new ⊎ NotOpened NoMemory from to code before after old new))
    ⊎ (¬ (IsCapacity capacity) × NotOpened OutOfBounds from to code before after old new)

-- the rings of the open lanes stay, and the seats too
pub record KeepsLaneRings {M : Type 0} (old new : RoomShown M) : Type 0 where
  pub rings : (number : ℕ) → number < length old.lanes → SameRing number (floor_of old) (floor_of new)
  pub kept : KeepsSeats old new

abbrev pub OpensLane : {M : Type 0} → (Resource M → Owned) → Name → ℕ → Slot → Slot → ℕ → ℕ → ℕ → RoomShown M → RoomShown M → Type 0
OpensLane wrap target capacity =
    OpensIn (λ lane. wrap (Lane lane)) (λ old new outcome. OpensALane old new target capacity outcome) KeepsLaneRings capacity

-- the code of a message that is sent
abbrev pub told_sent : {X : Type 0} → Result ⊤ X → Code
told_sent (Ok done) = Done
told_sent (Err back) = Full

-- the lane accepted the message, or has no free slot, which isn't so while it accepted fewer than it has room for
pub record Accepts {M : Type 0} (message : M) (told : ℕ) (old new : LaneShown M) : Type 0 where
  pub done : told ≡ number Done
  pub accepted : new ≡ record old { accepted = old.accepted ++ message ∷ [] }

pub record IsFull {M : Type 0} (told : ℕ) (old new : LaneShown M) : Type 0 where
  pub full : told ≡ number Full
  pub many : old.capacity ≤ length old.accepted
  pub same : new ≡ old

abbrev pub Sends : {M : Type 0} → M → ℕ → Type 0 → ℕ → Resource M → Resource M → Type 0
Sends message told = OnLane (λ old new. Accepts message told old new ⊎ IsFull told old new)

-- the bytes are not copied, and the lane is as it was
pub record NotSent {M : Type 0} (bytes : List ℕ) (told : ℕ) (old new : LaneShown M) : Type 0 where
  pub refused : NotCopied bytes told
  pub same : new ≡ old

-- they are copied, and sent; or they are not copied
abbrev pub SendsCopied : List ℕ → ℕ → LaneShown (List ℕ) → LaneShown (List ℕ) → Type 0
SendsCopied message told old new = (Accepts message told old new ⊎ IsFull told old new) ⊎ NotSent message told old new

abbrev pub SendsBytes : List ℕ → Owned → Owned → ℕ → Type 0
SendsBytes message old new told = OnBytes (OnLane (SendsCopied message told)) ⊤ told old new

-- the lane has finished: all that was sent on it is known; or its room has let go of it
abbrev pub FinishesLane : {M : Type 0} → LaneShown M → Resource M → ℕ → Type 0
FinishesLane lane new told =
    ((told ≡ number Done) × (new ≡ LaneEnd (record { ring = lane.ring; number = lane.number; sent = lane.accepted })))
    ⊎ ((told ≡ number Gone) × (new ≡ Spent))

abbrev pub Finishes : {M : Type 0} → Type 0 → ℕ → Resource M → Resource M → Type 0
Finishes same told (Lane lane) new = FinishesLane lane new told
Finishes same told other new = IsWrong same told other new

-- the code of a lane that is closed by count, and what its handle leads to then
abbrev pub told_closed : {M : Type 0} → Result ⊤ (Ended M × Refusal) → Code
told_closed (Ok done) = Done
told_closed (Err back) = of_refusal back.1

abbrev pub left_closed : {M : Type 0} → Result ⊤ (Ended M × Refusal) → Resource M
left_closed (Ok done) = Spent
left_closed (Err back) = LaneEnd back.0

pub record ClosesEnd {M : Type 0} (sure : Bool) (end : Ended M) (lane : Resource M) (told : ℕ) (old new : RoomShown M) : Type 0 where
  pub outcome : Result ⊤ (Ended M × Refusal)
  pub floor : ClosesCounted chunk sure (floor_of old) (floor_of new) end outcome
  pub rings : KeepsRings (floor_of old) (floor_of new)
  pub stirs : Stirs MakesFewByOne old new
  pub code : told ≡ number (told_closed outcome)
  pub left : lane ≡ left_closed outcome

abbrev pub ClosesLane : {M : Type 0} → Bool → Resource M → Resource M → ℕ → RoomShown M → RoomShown M → Type 0
ClosesLane sure (LaneEnd end) lane told old new = ClosesEnd sure end lane told old new
ClosesLane sure other lane told old new = IsWrong (new ≡ old) told other lane

abbrev pub Closes : {M : Type 0} → Bool → ℕ → Resource M → Resource M → Resource M → Resource M → Type 0
Closes sure told old new from to = OnRoom (ClosesLane sure from to told) (to ≡ from) told old new

-- the code of the drop of a lane, and the content then of the place where the count is written
abbrev pub told_dropped : Result (ℕ × Bool) Refusal → Code
told_dropped (Ok dropped) = elim dropped.1 [ true ↦ Done | false ↦ StillOpen ]
told_dropped (Err refusal) = of_refusal refusal

abbrev pub written_dropped : ℕ → Result (ℕ × Bool) Refusal → ℕ
written_dropped before (Ok dropped) = dropped.0
written_dropped before (Err refusal) = before

pub record DropsLane {M : Type 0} (sure : Bool) (number_of code before after : ℕ) (old new : RoomShown M) : Type 0 where
  pub outcome : Result (ℕ × Bool) Refusal
  pub floor : Drops chunk sure number_of (floor_of old) (floor_of new) outcome
  pub rings : KeepsRings (floor_of old) (floor_of new)
  pub stirs : Stirs MakesFewByOne old new
  pub told : code ≡ number (told_dropped outcome)
  pub written : after ≡ written_dropped before outcome
