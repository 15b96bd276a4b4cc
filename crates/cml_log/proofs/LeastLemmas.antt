-- Lemmas on the least place of a list of cursors, for this crate and its callers.
use Rattle.std.proofs.Common.{◌≡◌, ◌≢◌, ◌⊎◌, ℕ, zero, suc, ◌*◌, ◌/◌, ◌≤◌, min, List, [], ◌∷◌, length, get_or, set, Option}
use Rattle.std.proofs.Common.{Some, None, refl, sym, ap, ◌∙◌, inl, inr, arith}
use Rattle.std.proofs.Math.Nat.{div-mul-le_self, mul-le-mul_left, div-zero}
use Rattle.std.proofs.lemmas.Nat.{le-div}
use Rattle.std.proofs.lemmas.Bool.{cases_eq, cases_lt}
use Rattle.std.proofs.lemmas.List.{get_or-set_same, get_or-set_other, get_or_past}
use Rattle.cml_log.specs.{least}

-- the end is no lower
pub least-le_end : (end : ℕ) (places : List (Option ℕ)) → least end places ≤ end
least-le_end end [] = omega arith
least-le_end end (None ∷ rest) = least-le_end end rest
least-le_end end (Some place ∷ rest) = omega (arith, least-le_end (min end place) rest)

-- no cursor is at a lower place
pub least-le_place : (end : ℕ) (places : List (Option ℕ)) (key place : ℕ) → get_or places key None ≡ Some place → least end places ≤ place
least-le_place end [] key place found = absurd (cc)
least-le_place end (None ∷ rest) zero place found = absurd (cc)
least-le_place end (None ∷ rest) (suc key) place found = least-le_place end rest key place found
least-le_place end (Some other ∷ rest) zero place found =
    let same : other ≡ place = cc in omega (arith, least-le_end (min end other) rest)
least-le_place end (Some other ∷ rest) (suc key) place found =
    least-le_place (min end other) rest key place found

-- a bound that is below the end and below each cursor is below the least place
pub least-ge : (bound end : ℕ) (places : List (Option ℕ)) → bound ≤ end
    → ((key place : ℕ) → get_or places key None ≡ Some place → bound ≤ place) → bound ≤ least end places
least-ge bound end [] low below = low
least-ge bound end (None ∷ rest) low below =
    least-ge bound end rest low (λ key place found. below (suc key) place found)
least-ge bound end (Some place ∷ rest) low below =
    let here = below zero place refl in
    least-ge bound (min end place) rest (omega arith) (λ key later found. below (suc key) later found)

-- a cursor is at the least place, or it is the end
pub least-stands : (end : ℕ) (places : List (Option ℕ))
    → (least end places ≡ end) ⊎ ((key : ℕ) × (get_or places key None ≡ Some (least end places)))
least-stands end [] = inl refl
least-stands end (None ∷ rest) =
    elim (least-stands end rest) [ inl last ↦ inl last | inr found ↦ inr (suc found.0, found.1) ]
least-stands end (Some place ∷ rest) =
    elim (least-stands (min end place) rest) [
      | inl first ↦
          elim (cases_lt place end) [
            | inl below ↦
                let same : place ≡ least (min end place) rest = omega arith in
                inr (zero, ap (λ p. Some p) same)
            | inr above ↦ inl (omega arith)
          ]
      | inr found ↦ inr (suc found.0, found.1)
    ]

-- without an open cursor the least place is the end
pub least-vacant : (end : ℕ) (places : List (Option ℕ)) → ((key : ℕ) → get_or places key None ≡ None) → least end places ≡ end
least-vacant end places vacant =
    let high = least-ge end end places (omega arith) (λ key place found. absurd (let none = vacant key in cc)) in
    omega (arith, least-le_end end places)

-- a later end makes the least place no lower
pub least-later_end : (end later : ℕ) (places : List (Option ℕ)) → end ≤ later → least end places ≤ least later places
least-later_end end later places order =
    least-ge (least end places) later places (omega (arith, least-le_end end places))
    (λ key place found. least-le_place end places key place found)

-- if a cursor is no later than the end, a later end changes nothing
pub least-past_cursor : (end later : ℕ) (places : List (Option ℕ)) (key place : ℕ) → get_or places key None ≡ Some place → place ≤ end
    → end ≤ later → least later places ≡ least end places
least-past_cursor end later places key place found within order =
    let up = least-later_end end later places order in
    let down = least-ge (least later places) end places (omega (arith, least-le_place later places key place found))
    (λ other at seen. least-le_place later places other at seen) in
    omega arith

-- one more cursor, no lower than the least place, leaves it
pub least-opened : (end : ℕ) (old new : List (Option ℕ)) (key place : ℕ) → get_or old key None ≡ None → get_or new key None ≡ Some place
    → ((other : ℕ) → other ≢ key → get_or new other None ≡ get_or old other None) → least end old ≤ place → least end new ≡ least end old
least-opened end old new key place vacant opened others high =
    let up = least-ge (least end old) end new (least-le_end end old) (λ other at found. elim (cases_eq other key) [
      | inl same ↦
          let here : Some place ≡ Some at = sym opened ∙ ap (λ k. get_or new k None) (sym same) ∙ found in
          let equal : place ≡ at = cc in
          omega arith
      | inr differs ↦ least-le_place end old other at (sym (others other differs) ∙ found)
    ]) in
    let down = least-ge (least end new) end old (least-le_end end new) (λ other at found. elim (cases_eq other key) [
      | inl same ↦ absurd (let none : None ≡ Some at = sym vacant ∙ ap (λ k. get_or old k None) (sym same) ∙ found in cc)
      | inr differs ↦ least-le_place end new other at (others other differs ∙ found)
    ]) in
    omega arith

-- a cursor that moves on, or is closed, makes the least place no lower
pub least-set : (end : ℕ) (places : List (Option ℕ)) (key place : ℕ) (slot : Option ℕ) → get_or places key None ≡ Some place
    → ((moved : ℕ) → slot ≡ Some moved → place ≤ moved) → least end places ≤ least end (set places key slot)
least-set end places key place slot found later =
    least-ge (least end places) end (set places key slot) (least-le_end end places) (λ other at seen. elim (cases_eq other key) [
      | inl same ↦
          elim (cases_lt key (length places)) [
            | inl within ↦
                let written : slot ≡ Some at = sym (get_or-set_same places key slot None within)
                ∙ ap (λ k. get_or (set places key slot) k None) (sym same) ∙ seen in
                omega (arith, later at written, least-le_place end places key place found)
            | inr past ↦ absurd (let none = get_or_past places key None past in cc)
          ]
      | inr differs ↦ least-le_place end places other at (sym (get_or-set_other places key other slot None differs) ∙ seen)
    ])

-- a later place lies in no earlier chunk
pub chunk_start-le : (chunk low high : ℕ) → low ≤ high → chunk * (low / chunk) ≤ chunk * (high / chunk)
chunk_start-le zero low high order = rw (div-zero low, div-zero high) (omega arith)
chunk_start-le (suc size) low high order =
    mul-le-mul_left (suc size) (le-div (low / suc size) high (suc size) (omega arith) (omega (arith, div-mul-le_self low (suc size))))
