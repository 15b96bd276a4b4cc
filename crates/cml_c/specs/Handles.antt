-- What becomes of what a handle leads to.
use Rattle.std.specs.Prelude.{ℕ, ◌≡◌, Bool, true, false, List, Box}
use Rattle.std.specs.declared.alloc.Global.{Global}
use Rattle.cml_board.specs.{Entry, Found}
use Rattle.cml_lanes.specs.{LaneShown, FeedShown}
use Rattle.cml_journal.specs.{Progress}
use Rattle.cml_room.specs.{RoomShown}
use Rattle.cml_c.specs.declared.code.Code.TheVariants.{WrongHandle}
use Rattle.cml_c.specs.declared.owned.Owned.{Owned}
use Rattle.cml_c.specs.declared.owned.Owned.TheVariants.{Numbers, Bytes}
use Rattle.cml_c.specs.declared.owned.Resource.{Resource}
use Rattle.cml_c.specs.declared.owned.RoomWithSpare.{RoomWithSpare}
use Rattle.cml_c.specs.declared.owned.Resource.TheVariants.{Room, Lane, Feed, Journal, Checker, JournalCheck}
use Rattle.cml_c.specs.Codes.{number}

-- what a checker shows: the history that it found lawful, or the first entry that isn't
abbrev pub Seen : Type 0 → Type 0
Seen M = Found M

-- the handle leads to what takes no such call: nothing is changed, also of what is written
pub record IsWrong {X : Type 0} (same : Type 0) (code : ℕ) (old new : X) : Type 0 where
  pub told : code ≡ number WrongHandle
  pub unwritten : same
  pub kept : new ≡ old

-- this becomes of what the handle leads to, whatever its messages are: by whether a share of one is never refused, which is so of
-- numbers and not of bytes, and by what leads to a resource of them
abbrev pub OnAnyOwned : ((M : Type 0) → Bool → (Resource M → Owned) → Type 0 → ℕ → Resource M → Resource M → Type 0)
    → Type 0 → ℕ → Owned → Owned → Type 0
OnAnyOwned becomes same code (Numbers old) new = (left : Resource ℕ) × (new ≡ Numbers left) × becomes ℕ true Numbers same code old left
OnAnyOwned becomes same code (Bytes old) new = (left : Resource (List ℕ)) × (new ≡ Bytes left)
    × becomes (List ℕ) false Bytes same code old left

abbrev pub OnAnyMessages : ((M : Type 0) → Bool → Type 0 → ℕ → Resource M → Resource M → Type 0) → Type 0 → ℕ → Owned → Owned → Type 0
OnAnyMessages becomes same code old new = OnAnyOwned (λ M sure wrap. becomes M sure) same code old new

-- the same if its messages are numbers, and if they are bytes; else the call is wrong
abbrev pub OnNumbers : (Type 0 → ℕ → Resource ℕ → Resource ℕ → Type 0) → Type 0 → ℕ → Owned → Owned → Type 0
OnNumbers becomes same code (Numbers old) new = (left : Resource ℕ) × (new ≡ Numbers left) × becomes same code old left
OnNumbers becomes same code (Bytes old) new = IsWrong same code (Bytes old) new

abbrev pub OnBytes : (Type 0 → ℕ → Resource (List ℕ) → Resource (List ℕ) → Type 0) → Type 0 → ℕ → Owned → Owned → Type 0
OnBytes becomes same code (Numbers old) new = IsWrong same code (Numbers old) new
OnBytes becomes same code (Bytes old) new = (left : Resource (List ℕ)) × (new ≡ Bytes left) × becomes same code old left

-- the same of two handles whose messages are of one type; if they are not, the call is wrong
abbrev pub OnBoth : ((M : Type 0) → Bool → ℕ → Resource M → Resource M → Resource M → Resource M → Type 0) → ℕ
    → Owned → Owned → Owned → Owned → Type 0
OnBoth becomes code (Numbers old) new (Numbers from) to =
    (left : Resource ℕ) × (new ≡ Numbers left) × (other : Resource ℕ) × (to ≡ Numbers other) × becomes ℕ true code old left from other
OnBoth becomes code (Bytes old) new (Bytes from) to =
    (left : Resource (List ℕ)) × (new ≡ Bytes left) × (other : Resource (List ℕ)) × (to ≡ Bytes other)
    × becomes (List ℕ) false code old left from other
OnBoth becomes code old new from to = IsWrong (to ≡ from) code old new

-- it is a room, a lane, a feed, a checker or a reading, and this becomes of it; else the call is wrong
abbrev pub OnRoom : {M : Type 0} → (RoomShown M → RoomShown M → Type 0) → Type 0 → ℕ → Resource M → Resource M → Type 0
OnRoom {M} becomes same code (Room old) new = (room : Box (RoomWithSpare M) Global) × (new ≡ Room room) × becomes old.value.room room.value.room
OnRoom becomes same code other new = IsWrong same code other new

abbrev pub OnLane : {M : Type 0} → (LaneShown M → LaneShown M → Type 0) → Type 0 → ℕ → Resource M → Resource M → Type 0
OnLane {M} becomes same code (Lane old) new = (lane : LaneShown M) × (new ≡ Lane lane) × becomes old lane
OnLane becomes same code other new = IsWrong same code other new

abbrev pub OnFeed : {M : Type 0} → (FeedShown M → FeedShown M → Type 0) → Type 0 → ℕ → Resource M → Resource M → Type 0
OnFeed {M} becomes same code (Feed old) new = (feed : FeedShown M) × (new ≡ Feed feed) × becomes old feed
OnFeed becomes same code other new = IsWrong same code other new

abbrev pub OnChecker : {M : Type 0} → (Seen M → Seen M → Type 0) → Type 0 → ℕ → Resource M → Resource M → Type 0
OnChecker {M} becomes same code (Checker old) new = (checker : Box (Seen M) Global)
    × (new ≡ Checker checker) × becomes old.value checker.value
OnChecker becomes same code other new = IsWrong same code other new

abbrev pub OnReading : {M : Type 0} → (Progress M → Progress M → Type 0) → Type 0 → ℕ → Resource M → Resource M → Type 0
OnReading {M} becomes same code (JournalCheck old) new = (reading : Box (Progress M) Global)
    × (new ≡ JournalCheck reading) × becomes old.value reading.value
OnReading becomes same code other new = IsWrong same code other new

-- it is a journal that was taken, which stays, and this is so of its entries; else the call is wrong
abbrev pub OnJournal : {M : Type 0} → (List (Entry M) → Type 0) → Type 0 → ℕ → Resource M → Resource M → Type 0
OnJournal holds same code (Journal taken) new = (new ≡ Journal taken) × holds taken.items
OnJournal holds same code other new = IsWrong same code other new
