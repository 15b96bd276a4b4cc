-- What C gets of a journal as text.
use Rattle.std.specs.Prelude.{ℕ, ◌≡◌, ◌+◌, ◌<◌, ◌≤◌, ◌^◌, ◌⊎◌, List, length, ⊤}
use Rattle.std.specs.Fmt.{decimal}
use Rattle.cml_board.specs.{Entry}
use Rattle.cml_journal.specs.{AreShort, IsTooLong, bytes_text, text_of, piece_lines}
use Rattle.cml_c.specs.declared.code.Code.TheVariants.{Done, NoMemory, OutOfBounds, TooLong}
use Rattle.cml_c.specs.declared.code.Code.{Code}
use Rattle.cml_c.specs.declared.owned.Owned.{Owned}
use Rattle.cml_c.specs.declared.owned.Owned.TheVariants.{Numbers, Bytes}
use Rattle.cml_c.specs.declared.owned.Resource.{Resource}
use Rattle.cml_c.specs.declared.messages.SeryugoBytes.{SeryugoBytes}
use Rattle.cml_c.specs.Codes.{number}
use Rattle.cml_c.specs.Handles.{OnJournal}
use Rattle.cml_c.specs.Messages.{IsHanded}

-- why no text of these entries is handed over: there is no memory for it, or no reading would take a line of it
abbrev pub IsUnwritten : {M : Type 0} → (M → List ℕ) → List (Entry M) → Code → Type 0
IsUnwritten text entries NoMemory = ⊤
IsUnwritten text entries TooLong = (place : ℕ) × IsTooLong text entries place
IsUnwritten text entries code = ⊥

-- the text of these entries as one piece, whose first has this position, is handed over, and a reading takes each line; or it is
-- not, for one of these reasons; or no position is after them
abbrev pub HandsText : {M : Type 0} → ℕ → (M → List ℕ) → ℕ → ℕ → SeryugoBytes → SeryugoBytes → List (Entry M) → Type 0
HandsText version text at told from to entries =
    ((at + length entries < 2 ^ 64) × (told ≡ number Done) × AreShort text entries
    × IsHanded (text_of (piece_lines version text at entries)) to)
    ⊎ ((at + length entries < 2 ^ 64) × ((code : Code) × (told ≡ number code) × IsUnwritten text entries code) × (to ≡ from))
    ⊎ ((2 ^ 64 ≤ at + length entries) × (told ≡ number OutOfBounds) × (to ≡ from))

-- the same of the entries of a journal that was taken
abbrev pub HandsTaken : {M : Type 0} → ℕ → (M → List ℕ) → ℕ → SeryugoBytes → SeryugoBytes → ℕ → Resource M → Resource M → Type 0
HandsTaken version text at from to code old new = OnJournal (HandsText version text at code from to) (to ≡ from) code old new

-- the same of whichever journal a handle leads to: numbers are written in version 1, as their digits, and bytes in version 2
abbrev pub HandsJournal : ℕ → SeryugoBytes → SeryugoBytes → ℕ → Owned → Owned → Type 0
HandsJournal at from to code (Numbers old) new = (left : Resource ℕ) × (new ≡ Numbers left) × HandsTaken 1 decimal at from to code old left
HandsJournal at from to code (Bytes old) new = (left : Resource (List ℕ)) × (new ≡ Bytes left)
    × HandsTaken 2 bytes_text at from to code old left
