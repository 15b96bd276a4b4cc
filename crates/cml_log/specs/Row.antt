-- The places of a chunk's row.
use Rattle.std.specs.Prelude.{◌≡◌, ℕ, zero, suc, List, [], ◌∷◌, length, refl, ⊤}
use Rattle.std.specs.Coded.{Coded, code_by, coded×, coded_ℕ, coded_list}
use Rattle.cml_log.specs.declared.row.Slot.{Slot}
use Rattle.cml_log.specs.declared.row.Slot.TheVariants.{Empty, Full, Taken}

-- the items that were written, and the first slot from which on none was moved out
pub record Written (T : Type 0) : Type 0 where
  pub items : List T
  pub taken : ℕ

-- they are stored as the pair of these
abbrev pub written_code : {T : Type 0} → Coded T → Coded (Written T)
written_code {T} code =
    code_by (List T × ℕ) (coded× (coded_list code) coded_ℕ) (λ w. (w.items, w.taken)) (λ p. record { items = p.0; taken = p.1 })
    (λ _. refl)

-- one slot further, where there is one
abbrev pub past : ℕ → ℕ
past zero = 0
past (suc n) = suc (suc n)

module _ {T : Type 0} where
  -- no item
  abbrev pub unwritten : Written T
  unwritten = record { items = []; taken = 0 }

  -- the items written from the first place on, with those that were moved out since
  abbrev pub written : List (Slot T) → List T
  written [] = []
  written (Empty ∷ rest) = []
  written (Full item ∷ rest) = item ∷ written rest
  written (Taken gone ∷ rest) = gone.item ∷ written rest

  -- the first slot from which on no item was moved out
  abbrev pub reach : List (Slot T) → ℕ
  reach [] = 0
  reach (Empty ∷ rest) = past (reach rest)
  reach (Full item ∷ rest) = past (reach rest)
  reach (Taken gone ∷ rest) = suc (reach rest)

  -- no place is written
  abbrev pub IsBlank : List (Slot T) → Type 0
  IsBlank [] = ⊤
  IsBlank (Empty ∷ rest) = IsBlank rest
  IsBlank (Full item ∷ rest) = ⊥
  IsBlank (Taken gone ∷ rest) = ⊥

  -- no place is written after one that isn't
  abbrev pub IsFilled : List (Slot T) → Type 0
  IsFilled [] = ⊤
  IsFilled (Empty ∷ rest) = IsBlank rest
  IsFilled (Full item ∷ rest) = IsFilled rest
  IsFilled (Taken gone ∷ rest) = IsFilled rest

  -- this many places, written in order
  abbrev pub IsRow : ℕ → List (Slot T) → Type 0
  IsRow count places = (length places ≡ count) × IsFilled places
