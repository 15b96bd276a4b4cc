-- Places of which the first have nothing open, and take no memory.
use Rattle.std.proofs.Common.{◌≡◌, ℕ, zero, suc, ◌+◌, ◌-◌, ◌<◌, ◌≤◌, true, false, List, [], ◌∷◌, ◌++◌, length, get_or, slice_get}
use Rattle.std.proofs.Common.{slice_set, replicate, Option, Some, None, IfSome, is_some, count_by, refl, sym, ap, subst, ◌∙◌, inl, inr}
use Rattle.std.proofs.Common.{arith}
use Rattle.std.proofs.lemmas.Bool.{false≢true, cases_lt}
use Rattle.cml_lanes.specs.{is_taken, stays, OnPlace, OnSlot, behind}
use Rattle.cml_lanes.proofs.SlotsLemmas.{taken_slot, taken_within, one_taken_less}
use Rattle.cml_lanes.proofs.OneSlotLemmas.{slot_here, side_here, on_place, placed_holds}

-- a list after this many copies of one item
module _ {X : Type 0} (x : X) where
  pub copies_longer : (count : ℕ) (items : List X) → length (replicate count x ++ items) ≡ count + length items
  copies_longer zero items = omega arith
  copies_longer (suc count) items = omega (arith, copies_longer count items)

  pub copies_added : (count : ℕ) (items : List X) (y : X) → replicate count x ++ (items ++ y ∷ []) ≡ (replicate count x ++ items) ++ y ∷ []
  copies_added zero items y = refl
  copies_added (suc count) items y = ap (λ (l : List X). x ∷ l) (copies_added count items y)

  pub copies_alone : (count : ℕ) → replicate count x ++ [] ≡ replicate count x
  copies_alone zero = refl
  copies_alone (suc count) = ap (λ (l : List X). x ∷ l) (copies_alone count)

  pub copies_before : (count number : ℕ) (items : List X) → number < count → slice_get (replicate count x ++ items) number ≡ Some x
  copies_before zero number items before = absurd (omega (arith, before))
  copies_before (suc count) zero items before = refl
  copies_before (suc count) (suc number) items before = copies_before count number items (omega (arith, before))

  pub copies_get : (count number k : ℕ) (items : List X) → number ≡ count + k
      → slice_get (replicate count x ++ items) number ≡ slice_get items k
  copies_get zero number k items at =
      let same : number ≡ k = omega (arith, at) in
      ap (slice_get items) same
  copies_get (suc count) zero k items at = absurd (omega (arith, at))
  copies_get (suc count) (suc number) k items at = copies_get count number k items (omega (arith, at))

  pub copies_or : (count number k : ℕ) (items : List X) (y : X) → number ≡ count + k
      → get_or (replicate count x ++ items) number y ≡ get_or items k y
  copies_or zero number k items y at =
      let same : number ≡ k = omega (arith, at) in
      ap (λ n. get_or items n y) same
  copies_or (suc count) zero k items y at = absurd (omega (arith, at))
  copies_or (suc count) (suc number) k items y at = copies_or count number k items y (omega (arith, at))

  pub copies_set : (count number k : ℕ) (items : List X) (y : X) → number ≡ count + k
      → slice_set (replicate count x ++ items) number y ≡ replicate count x ++ slice_set items k y
  copies_set zero number k items y at =
      let same : number ≡ k = omega (arith, at) in
      ap (λ n. slice_set items n y) same
  copies_set (suc count) zero k items y at = absurd (omega (arith, at))
  copies_set (suc count) (suc number) k items y at =
      ap (λ (l : List X). x ∷ l) (copies_set count number k items y (omega (arith, at)))

module _ {Side : Type 0} where
  -- a lesser number has nothing open
  pub closed_before : (closed number : ℕ) (items : List (Option Side)) → number < closed
      → is_taken (slice_get (behind closed items) number) ≡ false
  closed_before closed number items before = ap is_taken (copies_before None closed number items before)

  pub get_behind : (closed number : ℕ) (items : List (Option Side)) → closed ≤ number
      → slice_get (behind closed items) number ≡ slice_get items (number - closed)
  get_behind closed number items from = copies_get None closed number (number - closed) items (omega (arith, from))

  -- what an index gave is what is at the number
  pub or_behind : (closed number : ℕ) (items : List (Option Side)) (slot : Option Side) → closed ≤ number
      → slot ≡ get_or items (number - closed) slot → slot ≡ get_or (behind closed items) number slot
  or_behind closed number items slot from is = is ∙ sym (copies_or None closed number (number - closed) items slot (omega (arith, from)))

  pub set_behind : (closed number : ℕ) (items : List (Option Side)) (slot : Option Side) → closed ≤ number
      → slice_set (behind closed items) number slot ≡ behind closed (slice_set items (number - closed) slot)
  set_behind closed number items slot from = copies_set None closed number (number - closed) items slot (omega (arith, from))

  -- what is open is after those that were closed
  pub opened_from : (closed number : ℕ) (items shown : List (Option Side)) → behind closed items ≡ shown
      → is_taken (slice_get shown number) ≡ true → closed ≤ number
  opened_from closed number items shown view opened = elim (cases_lt number closed) [
    | inl before ↦ absurd (false≢true (sym (closed_before closed number items before)
        ∙ (ap (λ s. is_taken (slice_get s number)) view ∙ opened)))
    | inr from ↦ from
  ]

  pub opened_within : (closed number : ℕ) (items shown : List (Option Side)) → behind closed items ≡ shown
      → is_taken (slice_get shown number) ≡ true → number - closed < length items
  opened_within closed number items shown view opened =
      let from = opened_from closed number items shown view opened in
      taken_within items (number - closed)
      (ap is_taken (sym (get_behind closed number items from)) ∙ (ap (λ s. is_taken (slice_get s number)) view ∙ opened))

  module _ (closed number : ℕ) (items shown : List (Option Side)) (view : behind closed items ≡ shown)
      (opened : is_taken (slice_get shown number) ≡ true) where
    -- one less is open once it is closed
    pub one_less : count_by is_some (behind closed (slice_set items (number - closed) None)) + 1 ≡ count_by is_some (behind closed items)
    one_less =
        let lane = taken_slot (behind closed items) number (ap (λ s. is_taken (slice_get s number)) view ∙ opened) in
        let from = opened_from closed number items shown view opened in
        omega (
          arith,
          ap (count_by is_some) (set_behind closed number items None from),
          one_taken_less (behind closed items) number
              lane.0 lane.1,
        )

    module _ (slot : Option Side) (at : slot ≡ get_or items (number - closed) slot) where
      pub or_here : slot ≡ get_or (behind closed items) number slot
      or_here = or_behind closed number items slot (opened_from closed number items shown view opened) at

      -- the slot that an index gave, and what is in it
      pub found_behind : (side : Side) × (slot ≡ Some side) × (slice_get shown number ≡ Some (Some side))
      found_behind = side_here (behind closed items) shown number slot view opened or_here

      -- what is done to a slot is done to its place
      pub placed_behind : (new_slot : Option Side) (Does : Side → Side → Type 0) → OnSlot slot new_slot Does
          → OnPlace stays number shown (behind closed (slice_set items (number - closed) new_slot)) Does
      placed_behind new_slot Does on =
          let there = slot_here (behind closed items) shown number slot view opened or_here in
          subst (λ (news : List (Option Side)). OnPlace stays number shown news Does)
          (set_behind closed number items new_slot (opened_from closed number items shown view opened))
          (on_place (behind closed items) shown number slot new_slot Does view there on)

      -- what holds of what is in a slot holds of what is in its place
      pub holds_behind : (new_slot : Option Side) (P : Side → Type 0) → IfSome new_slot P → (side : Side)
          → slice_get (behind closed (slice_set items (number - closed) new_slot)) number ≡ Some (Some side) → P side
      holds_behind new_slot P holds side found =
          let there = slot_here (behind closed items) shown number slot view opened or_here in
          placed_holds (behind closed items) number slot new_slot P there holds side
          (ap (λ (s : List (Option Side)). slice_get s number)
          (set_behind closed number items new_slot (opened_from closed number items shown view opened)) ∙ found)
