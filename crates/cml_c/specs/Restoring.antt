-- What C gets of a room that goes on from a journal which was read back.
use Rattle.std.specs.Prelude.{ℕ, ◌≡◌, ◌⊎◌, List, replicate, Option, None, Some, Box}
use Rattle.std.specs.declared.alloc.Global.{Global}
use Rattle.cml_board.specs.{RestoredShown}
use Rattle.cml_journal.specs.{Halt, Progress, IsSoFar, IsRestored, message_of_word, number_of}
use Rattle.cml_journal.specs.declared.stop.Halt.TheVariants as halt
use Rattle.cml_room.specs.{RoomShown, NoneDue}
use Rattle.cml_room.specs.declared.state.State.TheVariants.{Left}
use Rattle.cml_c.specs.declared.code.Code.{Code}
use Rattle.cml_c.specs.declared.code.Code.TheVariants.{NoMemory, OutOfBounds, Unlawful}
use Rattle.cml_c.specs.declared.handle.Slot.{Slot}
use Rattle.cml_c.specs.declared.owned.Owned.{Owned}
use Rattle.cml_c.specs.declared.owned.Owned.TheVariants.{Numbers, Bytes}
use Rattle.cml_c.specs.declared.owned.Resource.{Resource}
use Rattle.cml_c.specs.declared.owned.RoomWithSpare.{RoomWithSpare}
use Rattle.cml_c.specs.declared.owned.Resource.TheVariants.{Room, JournalCheck, Spent}
use Rattle.cml_c.specs.Codes.{number}
use Rattle.cml_c.specs.Handles.{IsWrong}
use Rattle.cml_c.specs.Opening.{IsLimit, WritesNew}
use Rattle.cml_c.specs.ReadJournals.{told_halt}

-- the room has this board; the seats that made its entries have left, and no lane and no feed of them is open
pub record IsRoomOn {M : Type 0} (restored : RestoredShown M) (room : RoomShown M) : Type 0 where
  pub board : room.board ≡ restored.board
  pub lanes : room.lanes ≡ replicate restored.makers.lanes None
  pub feeds : room.feeds ≡ replicate restored.makers.feeds None
  pub seats : room.seats ≡ replicate restored.makers.seats Left
  pub quiet : NoneDue room

-- a handle to such a room is written; or there is no memory, and the slot is as it was
abbrev pub OpensOn : {M : Type 0} → (Resource M → Owned) → RestoredShown M → Slot → Slot → ℕ → Type 0
OpensOn {M} wrap restored from to told =
    WritesNew (λ (room : RoomWithSpare M). IsRoomOn restored room.room) (λ room. wrap (Room room)) told to
    ⊎ ((told ≡ number NoMemory) × (to ≡ from))

-- what C gets of a reading that has stopped, and what is left of it
abbrev pub told_stopped : Option Halt → Code
told_stopped (Some halted) = told_halt halted
told_stopped None = Unlawful

abbrev pub left_halted : {M : Type 0} → Box (Progress M) Global → Halt → Resource M
left_halted reading halt.NoMemory = Spent
left_halted reading halted = JournalCheck reading

abbrev pub left_stopped : {M : Type 0} → Box (Progress M) Global → Option Halt → Resource M
left_stopped reading (Some halted) = left_halted reading halted
left_stopped reading None = JournalCheck reading

-- no room is opened, for this reason, and this is left of the reading
pub record OpensNone {M : Type 0} (reason : Code) (rest : Resource M) (from to : Slot) (left : Resource M) (told : ℕ) : Type 0 where
  pub code : told ≡ number reason
  pub kept : left ≡ rest
  pub slot : to ≡ from

module _ {M : Type 0} (version : ℕ) (meaning : List ℕ → Option M) where
  -- the room has answered the calls whose entries are in the bytes that were read, and has cut its journal then
  pub record GoesOn (reading : Progress M) (limit : ℕ) (room : RoomShown M) : Type 0 where
    pub restored : RestoredShown M
    pub read : (bytes : List ℕ) → IsSoFar version meaning bytes reading → IsRestored version meaning bytes limit restored
    pub on : IsRoomOn restored room

  -- a handle to such a room is written, and the reading is spent
  pub record OpensRoom (wrap : Resource M → Owned) (limit : ℕ) (to : Slot) (reading : Progress M)
      (left : Resource M) (told : ℕ) : Type 0 where
    pub opened : WritesNew (λ (room : RoomWithSpare M). GoesOn reading limit room.room) (λ room. wrap (Room room)) told to
    pub spent : left ≡ Spent

  -- the reading has stopped: no bytes were read without a fault and without an unlawful entry
  pub record HasStopped (reading : Box (Progress M) Global) (from to : Slot) (left : Resource M) (told : ℕ) : Type 0 where
    pub never : (bytes : List ℕ) → IsSoFar version meaning bytes reading.value → ⊥
    pub none : OpensNone (told_stopped reading.value.halt) (left_stopped reading reading.value.halt) from to left told

  -- the limit is none; or it is one, and a room is opened, or the reading has stopped, or there is no memory
  abbrev pub RestoresBy : (Resource M → Owned) → ℕ → Slot → Slot → Box (Progress M) Global → Resource M → ℕ → Type 0
  RestoresBy wrap limit from to reading left told =
      (¬ (IsLimit limit) × OpensNone OutOfBounds (JournalCheck reading) from to left told)
      ⊎ (IsLimit limit × (OpensRoom wrap limit to reading.value left told ⊎ HasStopped reading from to left told
      ⊎ OpensNone NoMemory Spent from to left told))

  -- the handle leads to a reading, and this becomes of it; else the call is wrong
  abbrev pub Restores : (Resource M → Owned) → ℕ → Slot → Slot → ℕ → Resource M → Resource M → Type 0
  Restores wrap limit from to told (JournalCheck reading) left = RestoresBy wrap limit from to reading left told
  Restores wrap limit from to told other left = IsWrong (to ≡ from) told other left

-- the same of whatever a handle leads to
abbrev pub RestoresKept : ℕ → Slot → Slot → ℕ → Owned → Owned → Type 0
RestoresKept limit from to told (Numbers old) new = (left : Resource ℕ) × (new ≡ Numbers left)
    × Restores 1 number_of Numbers limit from to told old left
RestoresKept limit from to told (Bytes old) new = (left : Resource (List ℕ)) × (new ≡ Bytes left)
    × Restores 2 message_of_word Bytes limit from to told old left
