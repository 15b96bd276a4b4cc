-- The element at a place, after a write and after a push.
use Rattle.std.proofs.Common.{◌≡◌, ◌≢◌, ℕ, zero, suc, ◌+◌, ◌≤◌, ◌⊎◌, inl, inr, List, [], ◌∷◌, ◌++◌, length, take, drop}
use Rattle.std.proofs.Common.{slice_get, slice_set, Some, Result, Ok, Err, OnOk, OnErr, true, false, refl, ap, ◌∙◌, arith}
use Rattle.std.proofs.lemmas.Option.{same_Some, none-some}
use Rattle.std.proofs.lemmas.Bool.{true≢false, false≢true}
use Rattle.std.specs.Result.{is_err}

module _ {X : Type 0} where
  pub slice_get-set_same : (xs : List X) (i : ℕ) (x y : X) → slice_get xs i ≡ Some x → slice_get (slice_set xs i y) i ≡ Some y
  slice_get-set_same [] i x y found = absurd (none-some x found)
  slice_get-set_same (z ∷ xs) zero x y found = refl
  slice_get-set_same (z ∷ xs) (suc i) x y found = slice_get-set_same xs i x y found

  pub slice_get-set_other : (xs : List X) (i j : ℕ) (y : X) → j ≢ i → slice_get (slice_set xs i y) j ≡ slice_get xs j
  slice_get-set_other [] i j y other = refl
  slice_get-set_other (x ∷ xs) zero zero y other = absurd (other refl)
  slice_get-set_other (x ∷ xs) zero (suc j) y other = refl
  slice_get-set_other (x ∷ xs) (suc i) zero y other = refl
  slice_get-set_other (x ∷ xs) (suc i) (suc j) y other = slice_get-set_other xs i j y (λ e. other (ap suc e))

  -- an item at a place after a push was there before it, or was pushed
  pub pushed_cases : (xs : List X) (y z : X) (k : ℕ) → slice_get (xs ++ y ∷ []) k ≡ Some z
      → (slice_get xs k ≡ Some z) ⊎ ((k ≡ length xs) × (y ≡ z))
  pushed_cases [] y z zero found = inr (refl, same_Some y z found)
  pushed_cases [] y z (suc k) found = absurd (none-some z found)
  pushed_cases (x ∷ xs) y z zero found = inl found
  pushed_cases (x ∷ xs) y z (suc k) found =
      elim (pushed_cases xs y z k found) [ inl h ↦ inl h | inr h ↦ inr (ap suc h.0, h.1) ]

  pub slice_get-append_some : (xs ys : List X) (k : ℕ) (x : X) → slice_get xs k ≡ Some x → slice_get (xs ++ ys) k ≡ Some x
  slice_get-append_some [] ys k x found = absurd (none-some x found)
  slice_get-append_some (z ∷ xs) ys zero x found = found
  slice_get-append_some (z ∷ xs) ys (suc k) x found = slice_get-append_some xs ys k x found

  pub slice_get_pushed : (xs : List X) (y : X) → slice_get (xs ++ y ∷ []) (length xs) ≡ Some y
  slice_get_pushed [] y = refl
  slice_get_pushed (x ∷ xs) y = slice_get_pushed xs y

-- what holds anyway holds of an error
pub on_err_given : {X E P : Type 0} (r : Result X E) → P → OnErr r P
on_err_given (Ok x) p = tt
on_err_given (Err e) p = p

-- what holds of an error holds where there is one
pub on_err : {X E P : Type 0} (r : Result X E) → is_err r ≡ true → OnErr r P → P
on_err (Ok x) e p = absurd (false≢true e)
on_err (Err error) e p = p

-- what holds of a success holds where there is no error
pub on_ok : {X E P : Type 0} (r : Result X E) → is_err r ≡ false → OnOk r P → P
on_ok (Ok x) e p = p
on_ok (Err error) e p = absurd (true≢false e)

-- one item more of a list's first
pub take_next : {X : Type 0} (xs : List X) (i : ℕ) (x : X) → slice_get xs i ≡ Some x → take (i + 1) xs ≡ take i xs ++ x ∷ []
take_next [] i x is = absurd (none-some x is)
take_next (y ∷ ys) zero x is = ap (λ z. z ∷ []) (same_Some y x is)
take_next (y ∷ ys) (suc i) x is =
    let e : suc i + 1 ≡ suc (i + 1) = omega arith in
    ap (λ n. take n (y ∷ ys)) e ∙ ap (λ zs. y ∷ zs) (take_next ys i x is)

-- all of a list's items
pub take_whole : {X : Type 0} (n : ℕ) (xs : List X) → length xs ≤ n → take n xs ≡ xs
take_whole zero [] within = refl
take_whole zero (x ∷ xs) within = absurd (omega arith)
take_whole (suc n) [] within = refl
take_whole (suc n) (x ∷ xs) within = ap (λ zs. x ∷ zs) (take_whole n xs (omega arith))

-- an item after the first
pub slice_get_drop : {X : Type 0} (n i : ℕ) (xs : List X) → slice_get (drop n xs) i ≡ slice_get xs (n + i)
slice_get_drop zero i xs = ap (slice_get xs) (omega arith)
slice_get_drop (suc n) i [] = refl
slice_get_drop (suc n) i (x ∷ xs) =
    let next : suc (n + i) ≡ suc n + i = omega arith in
    slice_get_drop n i xs ∙ ap (slice_get (x ∷ xs)) next
