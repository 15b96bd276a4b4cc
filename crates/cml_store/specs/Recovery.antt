-- What recovery keeps of a file.
use Rattle.std.specs.Prelude.{◌≢◌, ℕ, zero, suc, Bool, if◌then◌else◌, List, [], ◌∷◌, length, take}
pub use Rattle.cml_journal.specs.{printed}

-- no byte is 0
abbrev pub IsPrinted : List ℕ → Type 0
IsPrinted [] = Unit {0}
IsPrinted (b ∷ bs) = (b ≢ 0) × IsPrinted bs

-- the length of the longest front of at most n bytes that is whole
abbrev pub longest : (List ℕ → Bool) → List ℕ → ℕ → ℕ
longest whole text zero = zero
longest whole text (suc n) = if whole (take (suc n) text) then suc n else longest whole text n

-- the longest whole front of the bytes before the first 0
abbrev pub recovered : (List ℕ → Bool) → List ℕ → List ℕ
recovered whole c = take (longest whole (printed c) (length (printed c))) (printed c)
