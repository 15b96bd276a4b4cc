-- Lines that no reader takes, since they are too long.
use Rattle.std.specs.Prelude.{ℕ, ◌≡◌, ◌≤◌, ◌<◌, List, length, take, slice_get, Some, ⊤}
use Rattle.std.specs.List.{AllByRecursion}
use Rattle.cml_board.specs.{Entry}
use Rattle.cml_journal.specs.declared.fault.Unwritten.{Unwritten}
use Rattle.cml_journal.specs.declared.fault.Unwritten.TheVariants.{Memory, TooLong}
use Rattle.cml_journal.specs.Lines.{line_of}
use Rattle.cml_journal.specs.Feeding.{most}

-- the entry's line is short enough for a reader
abbrev pub IsShort : {M : Type 0} → (M → List ℕ) → Entry M → Type 0
IsShort text entry = length (line_of text entry) ≤ most

-- so is that of each of these entries
abbrev pub AreShort : {M : Type 0} → (M → List ℕ) → List (Entry M) → Type 0
AreShort text entries = AllByRecursion (IsShort text) entries

-- the entry at this place is the first whose line isn't
pub record IsTooLong {M : Type 0} (text : M → List ℕ) (entries : List (Entry M)) (place : ℕ) : Type 0 where
  pub entry : Entry M
  pub there : slice_get entries place ≡ Some entry
  pub long : most < length (line_of text entry)
  pub before : AreShort text (take place entries)

-- a piece that was not written has such an entry, or there was no memory
abbrev pub MayBeTooLong : {M : Type 0} → (M → List ℕ) → List (Entry M) → Unwritten → Type 0
MayBeTooLong text entries Memory = ⊤
MayBeTooLong text entries (TooLong place) = IsTooLong text entries place
