-- How often `next_due` can return a seat.
use Rattle.std.proofs.Common.{◌≡◌, ◌≢◌, ℕ, zero, suc, ◌+◌, ◌<◌, ◌≤◌, inl, inr, Bool, true, false, List, [], ◌∷◌, length}
use Rattle.std.proofs.Common.{slice_get, Option, Some, None, refl, sym, ap, ◌∙◌, arith}
use Rattle.std.specs.Prelude.{◌&&◌, ◌||◌, not}
use Rattle.std.proofs.lemmas.Option.{same_Some, slice_get_within}
use Rattle.std.proofs.lemmas.Bool.{false≢true}
use Rattle.cml_lanes.proofs.SlotsLemmas.{this_or_other}
use Rattle.cml_room.specs.{State, RoomShown, is_parked, has_notice, state_of, GivesInTurn, was_woken}

abbrev one : Bool → ℕ
one true = 1
one false = 0

one_most : (b : Bool) → one b ≤ 1
one_most true = omega arith
one_most false = omega arith

-- of how many numbers below n this is so
abbrev count : (ℕ → Bool) → ℕ → ℕ
count p zero = 0
count p (suc n) = one (p n) + count p n

count_most : (p : ℕ → Bool) (n : ℕ) → count p n ≤ n
count_most p zero = omega arith
count_most p (suc n) = omega (arith, one_most (p n), count_most p n)

count_same : (p q : ℕ → Bool) (n g : ℕ) → n ≤ g → ((k : ℕ) → k ≢ g → q k ≡ p k) → count q n ≡ count p n
count_same p q zero g below same = refl
count_same p q (suc n) g below same =
    let apart : n ≢ g = λ is. absurd (omega (arith, is, below)) in
    let here : one (q n) ≡ one (p n) = ap one (same n apart) in
    let rest : count q n ≡ count p n = count_same p q n g (omega (arith, below)) same in
    omega (arith, here, rest)

-- it is so of one fewer, if it was so of this one and isn't
count_less : (p q : ℕ → Bool) (n g : ℕ) → g < n → p g ≡ true → q g ≡ false → ((k : ℕ) → k ≢ g → q k ≡ p k) → count q n + 1 ≡ count p n
count_less p q zero g within was is same = absurd (omega (arith, within))
count_less p q (suc n) g within was is same = elim (this_or_other n g) [
  | inl here ↦
      let old : one (p n) ≡ 1 = ap (λ k. one (p k)) here ∙ ap one was in
      let new : one (q n) ≡ 0 = ap (λ k. one (q k)) here ∙ ap one is in
      let rest : count q n ≡ count p n = count_same p q n g (omega (arith, here)) same in
      omega (arith, old, new, rest)
  | inr other ↦
      let here : one (q n) ≡ one (p n) = ap one (same n other) in
      let rest : count q n + 1 ≡ count p n = count_less p q n g (omega (arith, within, other)) was is same in
      omega (arith, here, rest)
]

some_parked : (seen : Option State) (due : Bool) → (is_parked seen && due) ≡ true → (state : State) × (seen ≡ Some state)
some_parked None due is = absurd (false≢true is)
some_parked (Some state) due is = (state, refl)

module _ {M : Type 0} where
  abbrev unwoken : RoomShown M → ℕ → Bool
  unwoken room seat = not (was_woken room.notices seat)

  in_turn : (givens : List ℕ) (first last : RoomShown M) → GivesInTurn givens first last
      → (length givens + count (unwoken last) (length first.seats) ≡ count (unwoken first) (length first.seats))
      × (last.seats ≡ first.seats)
  in_turn [] first last same = (
    let here : count (unwoken last) (length first.seats) ≡ count (unwoken first) (length first.seats) =
        ap (λ (r : RoomShown M). count (unwoken r) (length first.seats)) same in
        omega (arith, here),
    ap (λ (r : RoomShown M). r.seats) same,
  )
  in_turn (given ∷ earlier) first last run =
      let before = in_turn earlier first run.0 run.1 in
      let state = some_parked (state_of run.0 given) (run.0.all_due || has_notice (slice_get run.0.notices given)) run.2.first.0 in
      let within : given < length run.0.seats = slice_get_within run.0.seats given state.0 state.1 in
      let many : length run.0.seats ≡ length first.seats = ap (λ (s : List State). length s) before.1 in
      let less : count (unwoken last) (length first.seats) + 1 ≡ count (unwoken run.0) (length first.seats) =
      count_less (unwoken run.0) (unwoken last) (length first.seats) given (omega (arith, within, many))
      (ap not run.2.first.1) (ap not run.2.first.2) (λ k other. ap not (run.2.only k (λ is. other (sym (same_Some given k is))))) in (
        omega (arith, less, before.0),
        run.2.seats ∙ before.1,
      )

  -- no more often than there are seats
  pub at_most_each : (givens : List ℕ) (first last : RoomShown M) → GivesInTurn givens first last → length givens ≤ length first.seats
  at_most_each givens first last run =
      omega (arith, (in_turn givens first last run).0, count_most (unwoken first) (length first.seats))
