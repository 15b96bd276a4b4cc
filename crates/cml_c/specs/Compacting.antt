-- What C gets of a journal that is made short: of one that was read, or of a room's.
use Rattle.std.specs.Prelude.{ℕ, ◌≡◌, ◌<◌, ◌≤◌, ◌⊎◌, ◌^◌, List, length, Bool, true, false, Option, Some, Box, Vec, ⊤}
use Rattle.std.specs.declared.alloc.Global.{Global}
use Rattle.cml_board.specs.{Entry, RestoredShown}
use Rattle.cml_compact.specs.{IsShortJournal, compact_size, last_seat}
use Rattle.cml_lanes.specs.{CutsOpenFloor, KeepsRings}
use Rattle.cml_room.specs.{RoomShown, floor_of, KeepsSeats}
use Rattle.cml_journal.specs.{Progress, IsSoFar, IsRestored, message_of_word, number_of}
use Rattle.cml_c.specs.declared.code.Code.{Code}
use Rattle.cml_c.specs.declared.code.Code.TheVariants.{Done, NoMemory, JournalFull}
use Rattle.cml_c.specs.declared.handle.Slot.{Slot}
use Rattle.cml_c.specs.declared.owned.Owned.{Owned}
use Rattle.cml_c.specs.declared.owned.Owned.TheVariants.{Numbers, Bytes}
use Rattle.cml_c.specs.declared.owned.Resource.{Resource}
use Rattle.cml_c.specs.declared.owned.Resource.TheVariants.{Journal, JournalCheck, Spent}
use Rattle.cml_c.specs.Codes.{number}
use Rattle.cml_c.specs.Handles.{IsWrong}
use Rattle.cml_c.specs.Restoring.{HasStopped, OpensNone}

-- a handle to a journal of such entries is written, with how many they are
pub record WritesTaken {M : Type 0} (IsSuch : List (Entry M) → Type 0) (wrap : Resource M → Owned) (to : Slot)
    (after told : ℕ) : Type 0 where
  pub done : told ≡ number Done
  pub taken : Vec (Entry M) Global
  pub such : IsSuch taken.items
  pub written : to.owned ≡ Some (wrap (Journal taken))
  pub count : after ≡ length taken.items

-- a handle to such a journal is written; or there is no memory, and the slot and the count are as they were
abbrev pub WritesShort : {M : Type 0} → (List (Entry M) → Type 0) → (Resource M → Owned) → Slot → Slot → ℕ → ℕ → ℕ → Type 0
WritesShort IsSuch wrap from to before after told =
    WritesTaken IsSuch wrap to after told ⊎ ((told ≡ number NoMemory) × (to ≡ from) × (after ≡ before))

module _ {M : Type 0} (version : ℕ) (meaning : List ℕ → Option M) where
  -- the entries leave to later calls what the entries leave that are in the bytes that were read
  pub record ShortensRead (reading : Progress M) (entries : List (Entry M)) : Type 0 where
    pub restored : RestoredShown M
    pub read : (bytes : List ℕ) → IsSoFar version meaning bytes reading → IsRestored version meaning bytes 1 restored
    pub short : IsShortJournal restored.board (last_seat restored.makers.seats) entries

  -- a handle to such a journal is written, and the reading is spent
  pub record GivesShort (wrap : Resource M → Owned) (to : Slot) (after : ℕ) (reading : Progress M) (left : Resource M)
      (told : ℕ) : Type 0 where
    pub gives : WritesTaken (ShortensRead reading) wrap to after told
    pub spent : left ≡ Spent

  -- it is; or nothing is written: the reading has stopped, or there is no memory, and the reading is spent
  abbrev pub ShortensBy : (Resource M → Owned) → Slot → Slot → ℕ → ℕ → Box (Progress M) Global → Resource M → ℕ → Type 0
  ShortensBy wrap from to before after reading left told =
      GivesShort wrap to after reading.value left told
      ⊎ ((after ≡ before) × (HasStopped version meaning reading from to left told ⊎ OpensNone NoMemory Spent from to left told))

  -- the handle leads to a reading, and this becomes of it; else the call is wrong
  abbrev pub Shortens : (Resource M → Owned) → Slot → Slot → ℕ → ℕ → ℕ → Resource M → Resource M → Type 0
  Shortens wrap from to before after told (JournalCheck reading) left = ShortensBy wrap from to before after reading left told
  Shortens wrap from to before after told other left = IsWrong ((to ≡ from) × (after ≡ before)) told other left

-- the same of whatever a handle leads to
abbrev pub ShortensKept : Slot → Slot → ℕ → ℕ → ℕ → Owned → Owned → Type 0
ShortensKept from to before after told (Numbers old) new = (left : Resource ℕ) × (new ≡ Numbers left)
    × Shortens 1 number_of Numbers from to before after told old left
ShortensKept from to before after told (Bytes old) new = (left : Resource (List ℕ)) × (new ≡ Bytes left)
    × Shortens 2 message_of_word Bytes from to before after told old left

module _ {M : Type 0} where
  -- a room's journal is cut while lanes and feeds go on, no reserved memory is lost, and no seat is changed
  pub record CutsShortRoom (old new : RoomShown M) : Type 0 where
    pub cut : CutsOpenFloor (floor_of old) (floor_of new)
    pub reserved : old.board.reserved ≤ new.board.reserved
    pub rings : KeepsRings (floor_of old) (floor_of new)
    pub kept : KeepsSeats old new

  -- what becomes of a room whose short journal is made
  abbrev pub LeavesShort : Bool → RoomShown M → RoomShown M → Type 0
  LeavesShort true old new = CutsShortRoom old new
  LeavesShort false old new = new ≡ old

  -- the entries leave what all calls of the room leave, and the last seat made all of them
  abbrev pub IsShortOf : RoomShown M → List (Entry M) → Type 0
  IsShortOf room entries = IsShortJournal room.board (last_seat (length room.seats)) entries

  -- a handle to such entries is written, with how many they are
  pub record CompactsRoom (cuts : Bool) (wrap : Resource M → Owned) (to : Slot) (code after : ℕ) (old new : RoomShown M) : Type 0 where
    pub gives : WritesTaken (IsShortOf old) wrap to after code
    pub leaves : LeavesShort cuts old new

  -- why it is not: there is no memory, or the entries would be more than 2^32
  abbrev pub IsNotShort : RoomShown M → Code → Type 0
  IsNotShort room NoMemory = ⊤
  IsNotShort room JournalFull = 2 ^ 32 < compact_size room.board.history
  IsNotShort room code = ⊥

  -- then nothing is written or changed
  pub record CompactsNone (from to : Slot) (code before after : ℕ) (old new : RoomShown M) : Type 0 where
    pub reason : Code
    pub why : IsNotShort old reason
    pub told : code ≡ number reason
    pub count : after ≡ before
    pub slot : to ≡ from
    pub same : new ≡ old

  abbrev pub MakesShort : Bool → (Resource M → Owned) → Slot → Slot → ℕ → ℕ → ℕ → RoomShown M → RoomShown M → Type 0
  MakesShort cuts wrap from to code before after old new =
      CompactsRoom cuts wrap to code after old new ⊎ CompactsNone from to code before after old new
