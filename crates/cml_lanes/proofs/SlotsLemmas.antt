-- Places in a list of slots.
use Rattle.std.proofs.Common.{◌≡◌, ◌≢◌, ℕ, zero, suc, ◌+◌, ◌<◌, ◌⊎◌, inl, inr, Bool, true, false, cond, eqb, List, [], ◌∷◌, ◌++◌, length}
use Rattle.std.proofs.Common.{get_or, slice_get, slice_set, Option, Some, None, is_some, count_by, refl, sym, ap, ◌∙◌, arith}
use Rattle.std.proofs.lemmas.Option.{same_Some, none-some}
use Rattle.std.proofs.lemmas.List.Recursion.{is_count_by}
use Rattle.std.proofs.lemmas.Bool.{eqb-true, eq-eqb, false≢true}
use Rattle.cml_board.proofs.ListLemmas.{slice_get-set_same, slice_get-set_other}
use Rattle.cml_lanes.specs.{is_taken}

-- a number is this one or another
pub this_or_other : (k n : ℕ) → (k ≡ n) ⊎ (k ≢ n)
this_or_other k n = by_cases (eqb k n) refl
  where
    by_cases : (t : Bool) → eqb k n ≡ t → (k ≡ n) ⊎ (k ≢ n)
    by_cases true e = inl (eqb-true k n e)
    by_cases false e = inr (λ same. false≢true (sym e ∙ eq-eqb k n same))

-- what was in each slot that is taken now, where none was written
pub same_places : {Side P : Type 0} (told : Side → P) (olds news : List (Option Side)) → news ≡ olds
    → (k : ℕ) (side : Side) → slice_get news k ≡ Some (Some side)
    → (was : Side) × (slice_get olds k ≡ Some (Some was)) × (told side ≡ told was)
same_places told olds news same = λ k side found. (side, ap (λ slots. slice_get slots k) (sym same) ∙ found, refl)

-- and where one was
pub set_places : {Side P : Type 0} (told : Side → P) (number : ℕ) (olds news : List (Option Side)) (from : Side) (to : Option Side)
    → slice_get olds number ≡ Some (Some from) → news ≡ slice_set olds number to → ((side : Side) → to ≡ Some side → told side ≡ told from)
    → (k : ℕ) (side : Side) → slice_get news k ≡ Some (Some side)
    → (was : Side) × (slice_get olds k ≡ Some (Some was)) × (told side ≡ told was)
set_places told number olds news from to opened written same = λ k side found. elim (this_or_other k number) [
  | inl here ↦
      let is : slice_get news k ≡ Some to = ap (λ slots. slice_get slots k) written ∙ ap (slice_get (slice_set olds number to)) here
      ∙ slice_get-set_same olds number (Some from) to opened in
      (from, ap (slice_get olds) here ∙ opened, same side (same_Some _ _ (sym is ∙ found)))
  | inr apart ↦ (side, sym (ap (λ slots. slice_get slots k) written ∙ slice_get-set_other olds number k to apart) ∙ found, refl)
]

module _ {X : Type 0} where
  -- the slot that an index gave
  pub slot_at : (slots : List (Option X)) (i : ℕ) (slot : Option X) → is_taken (slice_get slots i) ≡ true
      → slot ≡ get_or slots i slot → slice_get slots i ≡ Some slot
  slot_at [] i slot taken is = absurd (false≢true taken)
  slot_at (s ∷ slots) zero slot taken is = ap Some (sym is)
  slot_at (s ∷ slots) (suc i) slot taken is = slot_at slots i slot taken is

  taken_is : (found : Option (Option X)) → is_taken found ≡ true → (x : X) × (found ≡ Some (Some x))
  taken_is None taken = absurd (false≢true taken)
  taken_is (Some None) taken = absurd (false≢true taken)
  taken_is (Some (Some x)) taken = (x, refl)

  -- what is in it
  pub taken_slot : (slots : List (Option X)) (i : ℕ) → is_taken (slice_get slots i) ≡ true → (x : X) × (slice_get slots i ≡ Some (Some x))
  taken_slot slots i taken = taken_is (slice_get slots i) taken

  pub taken_within : (slots : List (Option X)) (i : ℕ) → is_taken (slice_get slots i) ≡ true → i < length slots
  taken_within [] i taken = absurd (false≢true taken)
  taken_within (s ∷ slots) zero taken = omega arith
  taken_within (s ∷ slots) (suc i) taken = omega (arith, taken_within slots i taken)

  -- no lane is in a slot that was emptied
  pub emptied : (slots : List (Option X)) (i : ℕ) (x : X) → slice_get (slice_set slots i None) i ≡ Some (Some x) → ⊥
  emptied [] i x found = none-some (Some x) found
  emptied (s ∷ slots) zero x found = none-some x (same_Some _ _ found)
  emptied (s ∷ slots) (suc i) x found = emptied slots i x found

  pub same_length : (slots : List (Option X)) (i : ℕ) (slot : Option X) → length (slice_set slots i slot) ≡ length slots
  same_length [] i slot = refl
  same_length (s ∷ slots) zero slot = refl
  same_length (s ∷ slots) (suc i) slot = ap suc (same_length slots i slot)

  pub set_again : (slots : List (Option X)) (i : ℕ) (one two : Option X) → slice_set (slice_set slots i one) i two ≡ slice_set slots i two
  set_again [] i one two = refl
  set_again (s ∷ slots) zero one two = refl
  set_again (s ∷ slots) (suc i) one two = ap (λ rest. s ∷ rest) (set_again slots i one two)

  -- how many are taken, by recursion
  taken_in : List (Option X) → ℕ
  taken_in [] = 0
  taken_in (None ∷ slots) = taken_in slots
  taken_in (Some x ∷ slots) = suc (taken_in slots)

  counted : (slots : List (Option X)) → taken_in slots ≡ count_by is_some slots
  unfolding taken_in
  counted slots = is_count_by taken_in is_some refl by_first slots
    where
      by_first : (slot : Option X) (rest : List (Option X))
          → taken_in (slot ∷ rest) ≡ cond (is_some slot) (1 + taken_in rest) (taken_in rest)
      by_first None rest = refl
      by_first (Some x) rest = omega arith

  as_many : (slots : List (Option X)) (i : ℕ) (a b : X) → slice_get slots i ≡ Some (Some a)
      → taken_in (slice_set slots i (Some b)) ≡ taken_in slots
  unfolding taken_in
  as_many [] i a b found = refl
  as_many (None ∷ slots) zero a b found = absurd (none-some a (same_Some _ _ found))
  as_many (Some x ∷ slots) zero a b found = refl
  as_many (None ∷ slots) (suc i) a b found = as_many slots i a b found
  as_many (Some x ∷ slots) (suc i) a b found = ap suc (as_many slots i a b found)

  one_less : (slots : List (Option X)) (i : ℕ) (a : X) → slice_get slots i ≡ Some (Some a)
      → taken_in slots ≡ suc (taken_in (slice_set slots i None))
  unfolding taken_in
  one_less [] i a found = absurd (none-some (Some a) found)
  one_less (None ∷ slots) zero a found = absurd (none-some a (same_Some _ _ found))
  one_less (Some x ∷ slots) zero a found = refl
  one_less (None ∷ slots) (suc i) a found = one_less slots i a found
  one_less (Some x ∷ slots) (suc i) a found = ap suc (one_less slots i a found)

  one_more : (slots : List (Option X)) (a : X) → taken_in (slots ++ Some a ∷ []) ≡ suc (taken_in slots)
  unfolding taken_in
  one_more [] a = refl
  one_more (None ∷ slots) a = one_more slots a
  one_more (Some x ∷ slots) a = ap suc (one_more slots a)

  -- how many are taken, where one stays taken, is let go, or comes
  pub as_many_taken : (slots : List (Option X)) (i : ℕ) (a b : X) → slice_get slots i ≡ Some (Some a)
      → count_by is_some (slice_set slots i (Some b)) ≡ count_by is_some slots
  as_many_taken slots i a b found = sym (counted (slice_set slots i (Some b))) ∙ as_many slots i a b found ∙ counted slots

  pub one_taken_less : (slots : List (Option X)) (i : ℕ) (a : X) → slice_get slots i ≡ Some (Some a)
      → count_by is_some slots ≡ suc (count_by is_some (slice_set slots i None))
  one_taken_less slots i a found = sym (counted slots) ∙ one_less slots i a found ∙ ap suc (counted (slice_set slots i None))

  pub one_taken_more : (slots : List (Option X)) (a : X) → count_by is_some (slots ++ Some a ∷ []) ≡ suc (count_by is_some slots)
  one_taken_more slots a = sym (counted (slots ++ Some a ∷ [])) ∙ one_more slots a ∙ ap suc (counted slots)
