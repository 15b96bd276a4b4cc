-- Lemmas on the places of a row.
use Rattle.std.proofs.Common.{◌≡◌, ℕ, zero, suc, ◌+◌, ◌<◌, ◌≤◌, List, [], ◌∷◌, ◌++◌, length, set, get_or, Option, Some, None}
use Rattle.std.proofs.Common.{refl, sym, ap, ◌∙◌, subst, arith}
use Rattle.std.specs.List.{slice_get}
use Rattle.std.proofs.lemmas.List.{length-set}
use Rattle.cml_log.specs.declared.row.Slot.TheVariants.{Empty, Full, Taken}
use Rattle.cml_log.specs.{Gone, Slot, past, reach, written, IsBlank, IsFilled, IsRow}

-- one slot further is no further than a slot that is past it
past-le : (n slot : ℕ) → past n ≤ suc slot → n ≤ slot
past-le zero slot low = omega arith
past-le (suc n) slot low = omega (arith, low)

past-zero : (n : ℕ) → past n ≤ 0 → n ≡ 0
past-zero zero low = refl
past-zero (suc n) low = absurd (omega (arith, low))

past-suc : (slot n : ℕ) → n ≡ slot + 1 → past n ≡ suc slot + 1
past-suc slot zero same = absurd (omega (arith, same))
past-suc slot (suc n) same = omega (arith, same)

module _ {T : Type 0} where
  -- places of which each is empty
  IsBlank-from : (places : List (Slot T)) → ((slot : ℕ) → slot < length places → get_or places slot Empty ≡ Empty) → IsBlank places
  IsBlank-from [] none = tt
  IsBlank-from (Empty ∷ rest) none = IsBlank-from rest (λ slot inside. none (suc slot) (omega (arith, inside)))
  IsBlank-from (Full item ∷ rest) none = absurd (let filled : Full item ≡ Empty = none 0 (omega arith) in cc)
  IsBlank-from (Taken gone ∷ rest) none = absurd (let filled : Taken gone ≡ Empty = none 0 (omega arith) in cc)

  IsFilled-blank : (places : List (Slot T)) → IsBlank places → IsFilled places
  IsFilled-blank [] blank = tt
  IsFilled-blank (Empty ∷ rest) blank = blank
  IsFilled-blank (Full item ∷ rest) blank = absurd blank
  IsFilled-blank (Taken gone ∷ rest) blank = absurd blank

  written-blank : (places : List (Slot T)) → IsBlank places → written places ≡ []
  written-blank [] blank = refl
  written-blank (Empty ∷ rest) blank = refl
  written-blank (Full item ∷ rest) blank = absurd blank
  written-blank (Taken gone ∷ rest) blank = absurd blank

  reach-blank : (places : List (Slot T)) → IsBlank places → reach places ≡ 0
  reach-blank [] blank = refl
  reach-blank (Empty ∷ rest) blank = ap past (reach-blank rest blank)
  reach-blank (Full item ∷ rest) blank = absurd blank
  reach-blank (Taken gone ∷ rest) blank = absurd blank

  module _ (count : ℕ) (places : List (Slot T)) (long : length places ≡ count)
      (none : (slot : ℕ) → slot < count → get_or places slot Empty ≡ Empty) where
    bare : IsBlank places
    bare = IsBlank-from places (λ slot inside. none slot (omega (arith, inside, long)))

    pub IsRow-none : IsRow count places
    IsRow-none = (long, IsFilled-blank places bare)

    pub written-none : written places ≡ []
    written-none = written-blank places bare

    pub reach-none : reach places ≡ 0
    reach-none = reach-blank places bare

  -- the first place that isn't written is
  written-first : (places : List (Slot T)) (item : T) → length (written places) < length places → IsFilled places
      → written (set places (length (written places)) (Full item)) ≡ written places ++ item ∷ []
  written-first [] item inside filled = absurd (omega (arith, inside))
  written-first (Empty ∷ rest) item inside filled = ap (λ items. item ∷ items) (written-blank rest filled)
  written-first (Full first ∷ rest) item inside filled =
      ap (λ items. first ∷ items) (written-first rest item (omega (arith, inside)) filled)
  written-first (Taken gone ∷ rest) item inside filled =
      ap (λ items. gone.item ∷ items) (written-first rest item (omega (arith, inside)) filled)

  reach-first : (places : List (Slot T)) (item : T) → reach (set places (length (written places)) (Full item)) ≡ reach places
  reach-first [] item = refl
  reach-first (Empty ∷ rest) item = refl
  reach-first (Full first ∷ rest) item = ap past (reach-first rest item)
  reach-first (Taken gone ∷ rest) item = ap suc (reach-first rest item)

  IsFilled-first : (places : List (Slot T)) (item : T) → IsFilled places → IsFilled (set places (length (written places)) (Full item))
  IsFilled-first [] item filled = tt
  IsFilled-first (Empty ∷ rest) item filled = IsFilled-blank rest filled
  IsFilled-first (Full first ∷ rest) item filled = IsFilled-first rest item filled
  IsFilled-first (Taken gone ∷ rest) item filled = IsFilled-first rest item filled

  module _ (count slot : ℕ) (places : List (Slot T)) (item : T) (row : IsRow count places) (next : slot ≡ length (written places)) where
    pub written-next : slot < count → written (set places slot (Full item)) ≡ written places ++ item ∷ []
    written-next within =
        ap (λ n. written (set places n (Full item))) next ∙ written-first places item (omega (arith, next, within, row.0)) row.1

    pub reach-next : reach (set places slot (Full item)) ≡ reach places
    reach-next = ap (λ n. reach (set places n (Full item))) next ∙ reach-first places item

    pub IsRow-next : IsRow count (set places slot (Full item))
    IsRow-next = (
      length-set places slot (Full item) ∙ row.0,
      subst (λ n. IsFilled (set places n (Full item))) (sym next) (IsFilled-first places item row.1),
    )

  -- an item that was written and not moved out is in its slot
  slot_blank : (places : List (Slot T)) (slot : ℕ) → IsBlank places → get_or places slot Empty ≡ Empty
  slot_blank [] slot blank = refl
  slot_blank (Empty ∷ rest) zero blank = refl
  slot_blank (Empty ∷ rest) (suc slot) blank = slot_blank rest slot blank
  slot_blank (Full item ∷ rest) slot blank = absurd blank
  slot_blank (Taken gone ∷ rest) slot blank = absurd blank

  -- what a slot has: nothing, where there is no place
  abbrev pub item_in : Slot T → Option T
  item_in Empty = None
  item_in (Full item) = Some item
  item_in (Taken gone) = None

  pub slot_shows : (places : List (Slot T)) (slot : ℕ) → IsFilled places → reach places ≤ slot
      → item_in (get_or places slot Empty) ≡ slice_get (written places) slot
  slot_shows [] slot filled low = refl
  slot_shows (Empty ∷ rest) zero filled low = refl
  slot_shows (Empty ∷ rest) (suc slot) filled low = ap item_in (slot_blank rest slot filled)
  slot_shows (Full item ∷ rest) zero filled low = refl
  slot_shows (Full item ∷ rest) (suc slot) filled low = slot_shows rest slot filled (past-le (reach rest) slot low)
  slot_shows (Taken gone ∷ rest) zero filled low = absurd (omega (arith, low))
  slot_shows (Taken gone ∷ rest) (suc slot) filled low = slot_shows rest slot filled (omega (arith, low))

  -- a slot that isn't full has none
  pub none_in : (slot : Slot T) → ((item : T) → slot ≡ Full item → ⊥) → None ≡ item_in slot
  none_in Empty other = refl
  none_in (Full item) other = absurd (other item refl)
  none_in (Taken gone) other = refl

  pub full_at : (places : List (Slot T)) (slot : ℕ) → reach places ≤ slot → slot < length (written places)
      → (item : T) × ((default : Slot T) → get_or places slot default ≡ Full item) × (slice_get (written places) slot ≡ Some item)
  full_at [] slot low inside = absurd (omega (arith, inside))
  full_at (Empty ∷ rest) slot low inside = absurd (omega (arith, inside))
  full_at (Full item ∷ rest) zero low inside = (item, λ default. refl, refl)
  full_at (Full item ∷ rest) (suc slot) low inside = full_at rest slot (past-le (reach rest) slot low) (omega (arith, inside))
  full_at (Taken gone ∷ rest) zero low inside = absurd (omega (arith, low))
  full_at (Taken gone ∷ rest) (suc slot) low inside = full_at rest slot (omega (arith, low)) (omega (arith, inside))

  -- an item that is moved out still counts as written
  pub written-taken : (places : List (Slot T)) (slot : ℕ) (item : T) (gone : Gone T) → get_or places slot Empty ≡ Full item
      → gone.item ≡ item → written (set places slot (Taken gone)) ≡ written places
  written-taken [] slot item gone full same = refl
  written-taken (Empty ∷ rest) zero item gone full same = absurd (cc)
  written-taken (Empty ∷ rest) (suc slot) item gone full same = refl
  written-taken (Full first ∷ rest) zero item gone full same =
      ap (λ i. i ∷ written rest) (same ∙ ap (item_or item) (sym full))
    where
      item_or : T → Slot T → T
      item_or default Empty = default
      item_or default (Full held) = held
      item_or default (Taken gone) = default
  written-taken (Full first ∷ rest) (suc slot) item gone full same =
      ap (λ items. first ∷ items) (written-taken rest slot item gone full same)
  written-taken (Taken other ∷ rest) zero item gone full same = absurd (cc)
  written-taken (Taken other ∷ rest) (suc slot) item gone full same =
      ap (λ items. other.item ∷ items) (written-taken rest slot item gone full same)

  pub reach-taken : (places : List (Slot T)) (slot : ℕ) (gone : Gone T) → slot < length places → reach places ≤ slot
      → reach (set places slot (Taken gone)) ≡ slot + 1
  reach-taken [] slot gone inside low = absurd (omega (arith, inside))
  reach-taken (Empty ∷ rest) zero gone inside low = ap suc (past-zero (reach rest) low)
  reach-taken (Empty ∷ rest) (suc slot) gone inside low =
      past-suc slot _ (reach-taken rest slot gone (omega (arith, inside)) (past-le (reach rest) slot low))
  reach-taken (Full item ∷ rest) zero gone inside low = ap suc (past-zero (reach rest) low)
  reach-taken (Full item ∷ rest) (suc slot) gone inside low =
      past-suc slot _ (reach-taken rest slot gone (omega (arith, inside)) (past-le (reach rest) slot low))
  reach-taken (Taken other ∷ rest) zero gone inside low = absurd (omega (arith, low))
  reach-taken (Taken other ∷ rest) (suc slot) gone inside low =
      omega (arith, reach-taken rest slot gone (omega (arith, inside)) (omega (arith, low)))

  IsFilled-taken : (places : List (Slot T)) (slot : ℕ) (item : T) (gone : Gone T) → get_or places slot Empty ≡ Full item
      → IsFilled places → IsFilled (set places slot (Taken gone))
  IsFilled-taken [] slot item gone full filled = tt
  IsFilled-taken (Empty ∷ rest) zero item gone full filled = absurd (cc)
  IsFilled-taken (Empty ∷ rest) (suc slot) item gone full filled = absurd (let none = slot_blank rest slot filled in cc)
  IsFilled-taken (Full first ∷ rest) zero item gone full filled = filled
  IsFilled-taken (Full first ∷ rest) (suc slot) item gone full filled = IsFilled-taken rest slot item gone full filled
  IsFilled-taken (Taken other ∷ rest) zero item gone full filled = filled
  IsFilled-taken (Taken other ∷ rest) (suc slot) item gone full filled = IsFilled-taken rest slot item gone full filled

  pub IsRow-taken : (count : ℕ) (places : List (Slot T)) (slot : ℕ) (item : T) (gone : Gone T) → IsRow count places
      → get_or places slot Empty ≡ Full item → IsRow count (set places slot (Taken gone))
  IsRow-taken count places slot item gone row full =
      (length-set places slot (Taken gone) ∙ row.0, IsFilled-taken places slot item gone full row.1)
