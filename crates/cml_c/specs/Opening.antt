-- What a call writes that opens a room, a checker or a reading, and when it writes nothing.
use Rattle.std.specs.Prelude.{ℕ, ◌≡◌, ◌≤◌, ◌^◌, ◌⊎◌, [], Option, Some, None, Ok, Box}
use Rattle.std.specs.declared.alloc.Global.{Global}
use Rattle.cml_board.specs.{no_entries}
use Rattle.cml_room.specs.{RoomShown, NoneDue}
use Rattle.cml_c.specs.declared.code.Code.TheVariants.{Done, NoMemory, OutOfBounds}
use Rattle.cml_c.specs.declared.handle.Slot.{Slot}
use Rattle.cml_c.specs.declared.message_kind.MessageKind.{MessageKind}
use Rattle.cml_c.specs.declared.message_kind.MessageKind.TheVariants as messages
use Rattle.cml_c.specs.declared.owned.Owned.{Owned}
use Rattle.cml_c.specs.declared.owned.Owned.TheVariants as owned
use Rattle.cml_c.specs.declared.owned.Resource.{Resource}
use Rattle.cml_c.specs.declared.owned.RoomWithSpare.{RoomWithSpare}
use Rattle.cml_c.specs.declared.owned.Resource.TheVariants.{Room, Checker}
use Rattle.cml_c.specs.Codes.{number}

-- no kind has such a number, and nothing is opened
abbrev pub OpensNothing : ℕ → Slot → Slot → Type 0
OpensNothing told old new = (told ≡ number OutOfBounds) × (new ≡ old)

-- a journal may have such a limit
abbrev pub IsLimit : ℕ → Type 0
IsLimit limit = (1 ≤ limit) × (limit ≤ 2 ^ 32)

-- nothing was done in the room, it has no seat, and no lane and no feed is open
pub record IsNew {M : Type 0} (limit : ℕ) (room : RoomShown M) : Type 0 where
  pub history : room.board.history ≡ no_entries
  pub past : room.board.past ≡ no_entries
  pub takes : room.board.limit ≡ limit
  pub lanes : room.lanes ≡ []
  pub feeds : room.feeds ≡ []
  pub seats : room.seats ≡ []
  pub quiet : NoneDue room

-- a handle to this is written; or there is no memory for one, and the slot is as it was
abbrev pub Writes : Owned → ℕ → Slot → Slot → Type 0
Writes owned told old new = ((told ≡ number Done) × (new.owned ≡ Some owned)) ⊎ ((told ≡ number NoMemory) × (new ≡ old))

-- a handle to a new one of this kind is written
pub record WritesNew {X : Type 0} (IsSuch : X → Type 0) (wrap : Box X Global → Owned) (told : ℕ) (new : Slot) : Type 0 where
  pub done : told ≡ number Done
  pub opened : Box X Global
  pub such : IsSuch opened.value
  pub written : new.owned ≡ Some (wrap opened)

-- the limit is such a one, and a handle to a new room is written, or there is no memory; or it is not, and the slot is as it was
abbrev pub OpensARoom : {M : Type 0} → (Resource M → Owned) → ℕ → ℕ → Slot → Slot → Type 0
OpensARoom {M} wrap limit told old new =
    (IsLimit limit × WritesNew (λ (room : RoomWithSpare M). IsNew limit room.room) (λ room. wrap (Room room)) told new)
    ⊎ ((told ≡ number NoMemory) × IsLimit limit × (new ≡ old)) ⊎ ((told ≡ number OutOfBounds) × ¬ (IsLimit limit) × (new ≡ old))

-- a handle to a new checker is written; or there is no memory, and the slot is as it was
abbrev pub OpensAChecker : {M : Type 0} → (Resource M → Owned) → ℕ → Slot → Slot → Type 0
OpensAChecker wrap told old new =
    WritesNew (λ seen. seen ≡ Ok no_entries) (λ checker. wrap (Checker checker)) told new ⊎ ((told ≡ number NoMemory) × (new ≡ old))

-- the same by the kind of the messages
abbrev pub OpensRoomOf : Option MessageKind → ℕ → ℕ → Slot → Slot → Type 0
OpensRoomOf (Some messages.Numbers) limit told old new = OpensARoom owned.Numbers limit told old new
OpensRoomOf (Some messages.Bytes) limit told old new = OpensARoom owned.Bytes limit told old new
OpensRoomOf None limit told old new = OpensNothing told old new

abbrev pub OpensCheckerOf : Option MessageKind → ℕ → Slot → Slot → Type 0
OpensCheckerOf (Some messages.Numbers) told old new = OpensAChecker owned.Numbers told old new
OpensCheckerOf (Some messages.Bytes) told old new = OpensAChecker owned.Bytes told old new
OpensCheckerOf None told old new = OpensNothing told old new
