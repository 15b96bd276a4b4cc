-- What `list_any`, `position` and `slice_get` give on a mapped list, one item at a time, and on a longer list.
use Rattle.std.proofs.Common.{◌≡◌, ℕ, zero, suc, ◌+◌, Bool, true, false, not, cond, ◌||◌, nat_lt, List, [], ◌∷◌, ◌++◌, length, map}
use Rattle.std.proofs.Common.{slice_get, position, Option, Some, None, refl, sym, ap, ◌∙◌, subst, arith, one-add, take, drop, ◌⊎◌, inl, inr}
use Rattle.std.specs.List.{list_any, position_or_len, zip, slice_split, onto_first}
use Rattle.std.specs.Option.{option_map}
use Rattle.std.proofs.lemmas.Option.{none-some, same_Some, cond_some}
use Rattle.std.proofs.lemmas.Bool.{lt-ltb, ltb-true}
use Rattle.std.proofs.lemmas.List.Splits.{slice_split-cons_no, slice_split_first}
use Rattle.std.proofs.lemmas.Bool.Decides.{nat_tests}

pub list_any-map : {X Y : Type 0} (f : X → Y) (test : Y → Bool) (xs : List X) → list_any test (map f xs) ≡ list_any (λ x. test (f x)) xs
list_any-map f test [] = refl
list_any-map f test (x ∷ xs) = ap (λ b. test (f x) || b) (list_any-map f test xs)

pub list_any-zip-map : {X Y Z : Type 0} (f : Y → Z) (test : X → Z → Bool) (xs : List X) (ys : List Y)
    → list_any (λ p. test p.0 p.1) (zip xs (map f ys)) ≡ list_any (λ p. test p.0 (f p.1)) (zip xs ys)
list_any-zip-map f test [] ys = refl
list_any-zip-map f test (x ∷ xs) [] = refl
list_any-zip-map f test (x ∷ xs) (y ∷ ys) = ap (λ b. test x (f y) || b) (list_any-zip-map f test xs ys)

nat_lt-suc : (m n : ℕ) → nat_lt (suc m) (suc n) ≡ nat_lt m n
nat_lt-suc m n = grind (arith, nat_tests)

-- where an item of a longer list is first found
pub position-cons : {X : Type 0} (p : X → Bool) (x : X) (xs : List X)
    → position p (x ∷ xs) ≡ cond (p x) (Some 0) (option_map suc (position p xs))
position-cons p x xs = by (p x)
  where
    n : ℕ
    n = position_or_len p xs

    later : (b : Bool) → cond b (Some (1 + n)) None ≡ option_map suc (cond b (Some n) None)
    later true = ap Some (one-add n)
    later false = refl

    by : (b : Bool) → cond (nat_lt (cond (not b) (1 + n) 0) (suc (length xs))) (Some (cond (not b) (1 + n) 0)) None
        ≡ cond b (Some 0) (option_map suc (position p xs))
    by true = ap (λ b. cond b (Some 0) None) (lt-ltb 0 (suc (length xs)) (omega arith))
    by false = ap (λ m. cond (nat_lt m (suc (length xs))) (Some (1 + n)) None) (one-add n)
        ∙ ap (λ b. cond b (Some (1 + n)) None) (nat_lt-suc n (length xs)) ∙ later (nat_lt n (length xs))

-- and in a list with more items after
pub position-append : {X : Type 0} (p : X → Bool) (xs ys : List X) (i : ℕ) → position p xs ≡ Some i → position p (xs ++ ys) ≡ Some i
position-append p [] ys i h = absurd (none-some i h)
position-append p (x ∷ xs) ys i h = position-cons p x (xs ++ ys)
    ∙ by (p x) (position p xs) (position-append p xs ys) refl (sym (position-cons p x xs) ∙ h)
  where
    by : (b : Bool) (r : Option ℕ) → ((j : ℕ) → position p xs ≡ Some j → position p (xs ++ ys) ≡ Some j) → position p xs ≡ r
        → cond b (Some 0) (option_map suc r) ≡ Some i → cond b (Some 0) (option_map suc (position p (xs ++ ys))) ≡ Some i
    by true r later e f = f
    by false None later e f = absurd (none-some i f)
    by false (Some j) later e f = ap (option_map suc) (later j e) ∙ f

-- what an option was that was mapped to a value
pub mapped_some : {X Y : Type 0} (f : X → Y) (o : Option X) (y : Y) → option_map f o ≡ Some y → (x : X) × (o ≡ Some x) × (f x ≡ y)
mapped_some f None y h = absurd (none-some y h)
mapped_some f (Some x) y h = (x, refl, same_Some (f x) y h)

pub slice_get-append : {X : Type 0} (xs ys : List X) (i : ℕ) (x : X) → slice_get xs i ≡ Some x → slice_get (xs ++ ys) i ≡ Some x
slice_get-append [] ys i x h = absurd (none-some x h)
slice_get-append (y ∷ xs) ys zero x h = h
slice_get-append (y ∷ xs) ys (suc i) x h = slice_get-append xs ys i x h

pub slice_get-push : {X : Type 0} (xs : List X) (x : X) → slice_get (xs ++ x ∷ []) (length xs) ≡ Some x
slice_get-push [] x = refl
slice_get-push (y ∷ xs) x = slice_get-push xs x

-- the items of a list with one more item after
pub slice_get-push-cases : {X : Type 0} (xs : List X) (x : X) (i : ℕ) (y : X) → slice_get (xs ++ x ∷ []) i ≡ Some y
    → (slice_get xs i ≡ Some y) ⊎ ((i ≡ length xs) × (y ≡ x))
slice_get-push-cases [] x zero y h = inr (refl, sym (same_Some x y h))
slice_get-push-cases [] x (suc i) y h = absurd (none-some y h)
slice_get-push-cases (z ∷ xs) x zero y h = inl h
slice_get-push-cases (z ∷ xs) x (suc i) y h =
    elim (slice_get-push-cases xs x i y h) [ inl a ↦ inl a | inr b ↦ inr (ap suc b.0, b.1) ]

-- what holds of each item with its position, and of one more
pub each-push : {X : Type 0} (P : ℕ → X → Type 0) (xs : List X) (x : X) → ((i : ℕ) (y : X) → slice_get xs i ≡ Some y → P i y)
    → P (length xs) x → (i : ℕ) (y : X) → slice_get (xs ++ x ∷ []) i ≡ Some y → P i y
each-push P xs x before last i y found = elim (slice_get-push-cases xs x i y found) [
  | inl a ↦ before i y a
  | inr b ↦ subst (λ (n : ℕ). P n y) (sym b.0) (subst (P (length xs)) (sym b.1) last)
]

-- ---- how a list is split at the first item that passes
pub slice_split-none : {X : Type 0} (p : X → Bool) (xs : List X) → position p xs ≡ None → slice_split p xs ≡ xs ∷ []
slice_split-none p [] h = refl
slice_split-none p (x ∷ xs) h = by (p x) (position p xs) refl refl (slice_split-none p xs) (sym (position-cons p x xs) ∙ h)
  where
    by : (b : Bool) (r : Option ℕ) → p x ≡ b → position p xs ≡ r → (position p xs ≡ None → slice_split p xs ≡ xs ∷ [])
        → cond b (Some 0) (option_map suc r) ≡ None → slice_split p (x ∷ xs) ≡ (x ∷ xs) ∷ []
    by true r e at rest f = absurd (none-some 0 (sym f))
    by false (Some i) e at rest f = absurd (none-some (suc i) (sym f))
    by false None e at rest f = slice_split-cons_no p x xs e ∙ ap (onto_first x) (rest at)

pub slice_split-some : (p : ℕ → Bool) (xs : List ℕ) (i : ℕ) → position p xs ≡ Some i
    → slice_split p xs ≡ take i xs ∷ slice_split p (drop (i + 1) xs)
slice_split-some p xs i h =
    let found = cond_some (nat_lt (position_or_len p xs) (length xs)) (position_or_len p xs) i h in
    slice_split_first p xs 0 (ltb-true _ _ found.0)
    ∙ ap (λ n. take n xs ∷ slice_split p (drop (n + 1) xs)) found.1
