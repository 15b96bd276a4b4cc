-- What C gets of a journal that is taken, and of one that is cut while lanes and feeds are open.
use Rattle.std.specs.Prelude.{ℕ, ◌≡◌, ◌≤◌, ◌⊎◌, Bool, true, false, List, [], ◌∷◌, Option, Some, None, Vec, length}
use Rattle.std.specs.declared.alloc.Global.{Global}
use Rattle.cml_board.specs.{Entry}
use Rattle.cml_lanes.specs.{CutsFloor, CutsOpenFloor, IsBusy, KeepsRings}
use Rattle.cml_room.specs.{RoomShown, floor_of, KeepsSeats}
use Rattle.cml_c.specs.declared.code.Code.TheVariants.{Done, Busy, NoMemory, OutOfBounds}
use Rattle.cml_c.specs.declared.handle.Slot.{Slot}
use Rattle.cml_c.specs.declared.journals.Taking.{Taking}
use Rattle.cml_c.specs.declared.journals.Taking.TheVariants as taking
use Rattle.cml_c.specs.declared.owned.Owned.{Owned}
use Rattle.cml_c.specs.declared.owned.Resource.{Resource}
use Rattle.cml_c.specs.declared.owned.Resource.TheVariants.{Journal}
use Rattle.cml_c.specs.Codes.{number}
use Rattle.cml_c.specs.Entries.{IsJournal}
use Rattle.cml_c.specs.Lanes.{NotOpened}
use Rattle.cml_c.specs.Handles.{OnAnyOwned, OnRoom}
use Rattle.cml_c.specs.Floors.{Does}
use Rattle.cml_c.specs.Reserved.{CutsReserved}
use Rattle.cml_c.specs.Compacting.{MakesShort}

-- the room's journal is cut, and a handle to the entries that it had is written, with how many they are
pub record Takes {M : Type 0} (wrap : Resource M → Owned) (to : Slot) (code after : ℕ) (old new : RoomShown M) : Type 0 where
  pub told : code ≡ number Done
  pub cut : CutsFloor (floor_of old) (floor_of new)
  pub rings : KeepsRings (floor_of old) (floor_of new)
  pub kept : KeepsSeats old new
  pub taken : Vec (Entry M) Global
  pub entries : IsJournal old taken.items
  pub written : to.owned ≡ Some (wrap (Journal taken))
  pub count : after ≡ length taken.items

-- it is taken; or a lane or a feed is open, or there is no memory for the handle, and nothing is changed
abbrev pub TakesJournal : {M : Type 0} → (Resource M → Owned) → Slot → Slot → ℕ → ℕ → ℕ → RoomShown M → RoomShown M → Type 0
TakesJournal wrap from to code before after old new =
    Takes wrap to code after old new
    ⊎ (IsBusy (floor_of old) × NotOpened Busy from to code before after old new)
    ⊎ NotOpened NoMemory from to code before after old new

-- the journal is cut, with none of what was reserved lost; lanes and feeds go on, and no seat is changed
pub record CutsOpen {M : Type 0} (code : ℕ) (old new : RoomShown M) : Type 0 where
  pub told : code ≡ number Done
  pub cut : CutsOpenFloor (floor_of old) (floor_of new)
  pub reserved : old.board.reserved ≤ new.board.reserved
  pub rings : KeepsRings (floor_of old) (floor_of new)
  pub kept : KeepsSeats old new

-- the journal is cut so, and a handle to the entries that it had is written, with how many they are
pub record TakesOpen {M : Type 0} (wrap : Resource M → Owned) (to : Slot) (code after : ℕ) (old new : RoomShown M) : Type 0 where
  pub told : code ≡ number Done
  pub cut : CutsOpenFloor (floor_of old) (floor_of new)
  pub rings : KeepsRings (floor_of old) (floor_of new)
  pub kept : KeepsSeats old new
  pub taken : Vec (Entry M) Global
  pub entries : IsJournal old taken.items
  pub written : to.owned ≡ Some (wrap (Journal taken))
  pub count : after ≡ length taken.items

-- it is taken; or there is no memory for the handle, and nothing is changed
abbrev pub TakesJournalOpen : {M : Type 0} → (Resource M → Owned) → Slot → Slot → ℕ → ℕ → ℕ → RoomShown M → RoomShown M → Type 0
TakesJournalOpen wrap from to code before after old new =
    TakesOpen wrap to code after old new ⊎ NotOpened NoMemory from to code before after old new

-- the journal is cut, while lanes and feeds may be open or not
abbrev pub CutsBy : {M : Type 0} → Bool → ℕ → RoomShown M → RoomShown M → Type 0
CutsBy true code old new = CutsOpen code old new
CutsBy false code old new = Does CutsReserved KeepsSeats code old new

-- what becomes of a journal that a handle is written to, in the order of the numbers
abbrev pub takings : List Taking
takings = taking.Cut ∷ taking.CutOpen ∷ taking.Short ∷ taking.ShortAndCut ∷ []

abbrev pub TakesBy : {M : Type 0} → Taking → (Resource M → Owned) → Slot → Slot → ℕ → ℕ → ℕ → RoomShown M → RoomShown M → Type 0
TakesBy taking.Cut wrap from to code before after old new = TakesJournal wrap from to code before after old new
TakesBy taking.CutOpen wrap from to code before after old new = TakesJournalOpen wrap from to code before after old new
TakesBy taking.Short wrap from to code before after old new = MakesShort false wrap from to code before after old new
TakesBy taking.ShortAndCut wrap from to code before after old new = MakesShort true wrap from to code before after old new

-- the same of the room that a handle leads to; or no taking has such a number, and nothing is changed
abbrev pub TakesOn : Option Taking → Slot → Slot → ℕ → ℕ → ℕ → Owned → Owned → Type 0
TakesOn (Some what) from to before after code old new =
    OnAnyOwned (λ M sure wrap. OnRoom (TakesBy what wrap from to code before after)) ((after ≡ before) × (to ≡ from)) code old new
TakesOn None from to before after code old new = (code ≡ number OutOfBounds) × (after ≡ before) × (to ≡ from) × (new ≡ old)
