-- What C gets of a text that is summed as it comes.
use Rattle.std.specs.Prelude.{ℕ, ◌≡◌, ◌⊎◌, List, Option, Some, Box}
use Rattle.std.specs.declared.alloc.Global.{Global}
use Rattle.cml_journal.specs.{Summed, and_bytes, nothing_summed, sum_by}
use Rattle.cml_c.specs.declared.code.Code.TheVariants.{Done, NoMemory}
use Rattle.cml_c.specs.declared.handle.Slot.{Slot}
use Rattle.cml_c.specs.declared.owned.Owned.{Owned}
use Rattle.cml_c.specs.declared.owned.Owned.TheVariants.{Numbers}
use Rattle.cml_c.specs.declared.owned.Resource.{Resource}
use Rattle.cml_c.specs.declared.owned.Resource.TheVariants.{Summing}
use Rattle.cml_c.specs.declared.sealed_texts.SeryugoSum.{SeryugoSum}
use Rattle.cml_c.specs.Codes.{number}
use Rattle.cml_c.specs.Handles.{IsWrong, OnNumbers}
use Rattle.cml_c.specs.Opening.{WritesNew}
use Rattle.cml_c.specs.SealedTexts.{sum_in}

-- a handle to a text of which nothing is summed is written; or there is no memory, and the slot is as it was
abbrev pub OpensSumming : (code : ℕ) → Slot → Slot → Type 0
OpensSumming code old new =
    WritesNew (λ summing. summing ≡ nothing_summed) (λ summing. Numbers (Summing summing)) code new ⊎ ((code ≡ number NoMemory) × (new ≡ old))

-- the sum of what is summed so far is written; or there is no memory, and it is not
abbrev pub TellsSumSoFar : Summed → SeryugoSum → SeryugoSum → (code : ℕ) → Type 0
TellsSumSoFar summed before after code =
    ((code ≡ number Done) × (sum_in after ≡ Some (sum_by summed))) ⊎ ((code ≡ number NoMemory) × (after ≡ before))

-- in any case the bytes are summed
abbrev pub SumsIn : List ℕ → SeryugoSum → SeryugoSum → (code : ℕ) → Summed → Summed → Type 0
SumsIn bytes before after code old new = (new ≡ and_bytes old bytes) × TellsSumSoFar new before after code

-- it is such a text, and this becomes of it; else the call is wrong
abbrev pub OnSummed : {M : Type 0} → (Summed → Summed → Type 0) → Type 0 → ℕ → Resource M → Resource M → Type 0
OnSummed {M} becomes same code (Summing old) new = (summing : Box Summed Global) × (new ≡ Summing summing) × becomes old.value summing.value
OnSummed becomes same code other new = IsWrong same code other new

abbrev pub SumsPart : List ℕ → SeryugoSum → SeryugoSum → (code : ℕ) → Owned → Owned → Type 0
SumsPart bytes before after code old new = OnNumbers (OnSummed (SumsIn bytes before after code)) (after ≡ before) code old new
