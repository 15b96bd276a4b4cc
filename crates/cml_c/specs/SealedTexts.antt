-- What C gets of a journal as text with sums.
use Rattle.std.specs.Prelude.{ℕ, ◌≡◌, ◌+◌, ◌<◌, ◌≤◌, ◌^◌, ◌⊎◌, List, length, Bool, true, false, Option, Some, None}
use Rattle.std.specs.Fmt.{decimal}
use Rattle.cml_board.specs.{Entry}
use Rattle.cml_journal.specs.{AreShort, Progress, bytes_text, kept_sum, piece_sum, sealed_piece_lines, text_of, Sum}
use Rattle.cml_c.specs.declared.code.Code.TheVariants.{Done, NoMemory, Nothing, OutOfBounds}
use Rattle.cml_c.specs.declared.code.Code.{Code}
use Rattle.cml_c.specs.declared.owned.Owned.{Owned}
use Rattle.cml_c.specs.declared.owned.Owned.TheVariants.{Numbers, Bytes}
use Rattle.cml_c.specs.declared.owned.Resource.{Resource}
use Rattle.cml_c.specs.declared.messages.SeryugoBytes.{SeryugoBytes}
use Rattle.cml_c.specs.declared.sealed_texts.SeryugoSum.{SeryugoSum}
use Rattle.cml_c.specs.Codes.{number}
use Rattle.cml_c.specs.Handles.{OnAnyMessages, OnJournal, OnReading}
use Rattle.cml_c.specs.Messages.{IsHanded}
use Rattle.cml_c.specs.Texts.{IsUnwritten}

-- the sum that C has
abbrev pub sum_by : Bool → List ℕ → Option Sum
sum_by true bytes = Some (record { 0 = bytes })
sum_by false bytes = None

abbrev pub sum_in : SeryugoSum → Option Sum
sum_in sum = sum_by sum.is_there sum.bytes

-- the text of these entries as one piece, after one with this sum if there is one, is handed over with its sum, and a reading takes
-- each line; or nothing is, for one of these reasons; or no position is after them
abbrev pub HandsSealed : {M : Type 0} → ℕ → (M → List ℕ) → ℕ → ℕ → SeryugoSum → SeryugoSum → SeryugoBytes → SeryugoBytes
    → List (Entry M) → Type 0
HandsSealed version text at told before after from to entries =
    ((at + length entries < 2 ^ 64) × (told ≡ number Done) × AreShort text entries
    × (sum_in after ≡ Some (piece_sum version text (sum_in before) at entries))
    × IsHanded (text_of (sealed_piece_lines version text (sum_in before) at entries)) to)
    ⊎ ((at + length entries < 2 ^ 64) × ((code : Code) × (told ≡ number code) × IsUnwritten text entries code)
    × (after ≡ before) × (to ≡ from))
    ⊎ ((2 ^ 64 ≤ at + length entries) × (told ≡ number OutOfBounds) × (after ≡ before) × (to ≡ from))

-- the same of the entries of a journal that was taken
abbrev pub HandsSealedTaken : {M : Type 0} → ℕ → (M → List ℕ) → ℕ → SeryugoSum → SeryugoSum → SeryugoBytes → SeryugoBytes → ℕ
    → Resource M → Resource M → Type 0
HandsSealedTaken version text at before after from to code old new =
    OnJournal (HandsSealed version text at code before after from to) ((after ≡ before) × (to ≡ from)) code old new

-- the same of whichever journal a handle leads to
abbrev pub HandsSealedJournal : ℕ → SeryugoSum → SeryugoSum → SeryugoBytes → SeryugoBytes → ℕ → Owned → Owned → Type 0
HandsSealedJournal at before after from to code (Numbers old) new = (left : Resource ℕ) × (new ≡ Numbers left)
    × HandsSealedTaken 1 decimal at before after from to code old left
HandsSealedJournal at before after from to code (Bytes old) new = (left : Resource (List ℕ)) × (new ≡ Bytes left)
    × HandsSealedTaken 2 bytes_text at before after from to code old left

-- this sum is written, if there is one
abbrev pub IsSum : Option Sum → ℕ → SeryugoSum → SeryugoSum → Type 0
IsSum (Some sum) told before after = (told ≡ number Done) × (sum_in after ≡ Some sum)
IsSum None told before after = (told ≡ number Nothing) × (after ≡ before)

-- the sum that guards the whole lines of a reading is written, if there is one; or there is no memory, and nothing is
abbrev pub TellsSumOf : {M : Type 0} → SeryugoSum → SeryugoSum → ℕ → Progress M → Type 0
TellsSumOf before after told progress = IsSum (kept_sum progress.state) told before after ⊎ ((told ≡ number NoMemory) × (after ≡ before))

-- and the reading stays as it was
abbrev pub TellsSum : SeryugoSum → SeryugoSum → ℕ → Owned → Owned → Type 0
TellsSum before after told = OnAnyMessages (λ (M : Type 0) (sure : Bool).
    OnReading (λ (old new : Progress M). (new ≡ old) × TellsSumOf before after told old)) (after ≡ before) told
