-- The element at a place, and what is counted, filtered and taken up to it.
use Rattle.std.proofs.Common.{◌≡◌, ◌⊎◌, slice_set, ℕ, zero, suc, ◌+◌, ◌<◌, ◌≤◌, inl, inr, Bool, true, false, cond, List, []}
use Rattle.std.proofs.Common.{◌∷◌, ◌++◌, length, get_or, one-add, zero-add, take, take_all, map, filter, slice_get, Option}
use Rattle.std.proofs.Common.{Some, None, IfSome, refl, sym, ap, ◌∙◌, arith, add-one}
use Rattle.std.specs.Option.{option_map, option_map_or}
use Rattle.std.proofs.lemmas.Option.{same_Some, none-some, slice_get-map, slice_get_read}
use Rattle.std.proofs.lemmas.List.{length_push}
use Rattle.std.proofs.lemmas.Bool.{cases_lt, false≢true}
use Rattle.cml_board.proofs.ListLemmas.{slice_get_pushed as push_at}
use Rattle.cml_board.proofs.ReceivedLemmas.{slice_get-append_within}
use Rattle.cml_report.specs.{one_if, how_many}

module _ {X : Type 0} where
  pub taken_more : (xs : List X) (i : ℕ) (x : X) → slice_get xs i ≡ Some x → take (i + 1) xs ≡ take i xs ++ x ∷ []
  taken_more [] i x found = absurd (none-some x found)
  taken_more (y ∷ ys) zero x found = ap (λ z. z ∷ []) (same_Some y x found)
  taken_more (y ∷ ys) (suc i) x found =
      let ih = rw add-one at (taken_more ys i x found) in rw add-one (ap (λ l. y ∷ l) ih)

  pub how_many-append : (p : X → Bool) (xs ys : List X) → how_many p (xs ++ ys) ≡ how_many p xs + how_many p ys
  how_many-append p [] ys = omega arith
  how_many-append p (x ∷ xs) ys = let ih = how_many-append p xs ys in omega (arith, ih)

  pub how_many-le : (p : X → Bool) (xs : List X) → how_many p xs ≤ length xs
  how_many-le p [] = omega arith
  how_many-le p (x ∷ xs) = elim (p x) as (λ t. one_if t + how_many p xs ≤ suc (length xs)) [
    | true ↦ omega (arith, how_many-le p xs)
    | false ↦ omega (arith, how_many-le p xs)
  ]

  pub count_taken : (p : X → Bool) (xs : List X) (i : ℕ) (x : X) → slice_get xs i ≡ Some x
      → how_many p (take (i + 1) xs) ≡ how_many p (take i xs) + one_if (p x)
  count_taken p xs i x found =
      ap (how_many p) (taken_more xs i x found) ∙ how_many-append p (take i xs) (x ∷ []) ∙ omega arith

  -- fewer pass before an element that passes than before a later one
  pub counted_mono : (p : X → Bool) (xs : List X) (i j : ℕ) (x : X) → i < j → slice_get xs i ≡ Some x → p x ≡ true
      → how_many p (take i xs) < how_many p (take j xs)
  counted_mono p [] i j x lt found passes = absurd (none-some x found)
  counted_mono p (y ∷ ys) zero zero x lt found passes = absurd (omega arith)
  counted_mono p (y ∷ ys) zero (suc j) x lt found passes =
      let yes : p y ≡ true = ap p (same_Some y x found) ∙ passes in
      rw yes (omega arith)
  counted_mono p (y ∷ ys) (suc i) zero x lt found passes = absurd (omega arith)
  counted_mono p (y ∷ ys) (suc i) (suc j) x lt found passes =
      let ih = counted_mono p ys i j x (omega arith) found passes in omega (arith, ih)

  pub taken_count : (p : X → Bool) (xs : List X) (i j : ℕ) → i ≤ j → how_many p (take i xs) ≤ how_many p (take j xs)
  taken_count p [] zero j le = omega arith
  taken_count p [] (suc i) j le = omega arith
  taken_count p (y ∷ ys) zero j le = omega arith
  taken_count p (y ∷ ys) (suc i) zero le = absurd (omega arith)
  taken_count p (y ∷ ys) (suc i) (suc j) le =
      let ih = taken_count p ys i j (omega arith) in omega (arith, ih)

  pub taken_all : (p : X → Bool) (xs : List X) (i : ℕ) → how_many p (take i xs) ≤ how_many p xs
  taken_all p xs i =
      let le = taken_count p xs i (i + length xs) (omega arith) in
      let all = ap (how_many p) (take_all (i + length xs) xs (omega arith)) in
      omega (arith, le, all)

  -- an item that passes is, among all that pass, after those that passed before it
  pub filter_at : (p : X → Bool) (xs : List X) (i : ℕ) (x : X) → slice_get xs i ≡ Some x → p x ≡ true
      → slice_get (filter p xs) (how_many p (take i xs)) ≡ Some x
  filter_at p [] i x found passes = absurd (none-some x found)
  filter_at p (y ∷ ys) zero x found passes =
      let same = same_Some y x found in
      let yes : p y ≡ true = ap p same ∙ passes in
      rw yes (ap Some same)
  filter_at p (y ∷ ys) (suc i) x found passes =
      let there = filter_at p ys i x found passes in
      elim (p y) as (λ t. slice_get (cond t (y ∷ filter p ys) (filter p ys)) (one_if t + how_many p (take i ys)) ≡ Some x) [
        | true ↦ rw (one-add (how_many p (take i ys))) there
        | false ↦ rw (zero-add (how_many p (take i ys))) there
      ]

  pub slice_get_pushed : (xs : List X) (y : X) (k : ℕ) → k ≡ length xs → slice_get (xs ++ y ∷ []) k ≡ Some y
  slice_get_pushed xs y k e = rw e (push_at xs y)

  pub set_at : (xs : List X) (i : ℕ) (y : X) → i < length xs → slice_get (slice_set xs i y) i ≡ Some y
  set_at [] i y lt = absurd (omega arith)
  set_at (x ∷ xs) zero y lt = refl
  set_at (x ∷ xs) (suc i) y lt = set_at xs i y (omega arith)

  -- a value at each place, and one more
  pub each_pushed : (f : ℕ → X) (xs : List X) (y : X) → ((k : ℕ) → k < length xs → slice_get xs k ≡ Some (f k)) → y ≡ f (length xs)
      → (k : ℕ) → k < length (xs ++ y ∷ []) → slice_get (xs ++ y ∷ []) k ≡ Some (f k)
  each_pushed f xs y each last k within = elim (cases_lt k (length xs)) [
    | inl lt ↦ slice_get-append_within xs (y ∷ []) k lt ∙ each k lt
    | inr ge ↦
        let here : k ≡ length xs = omega (arith, length_push xs y) in
        slice_get_pushed xs y k here ∙ ap Some (last ∙ ap f (sym here))
  ]

  -- a list of what a function has at each place
  pub listed : (f : ℕ → X) (n : ℕ) → (xs : List X) × (length xs ≡ n) × ((k : ℕ) → k < length xs → slice_get xs k ≡ Some (f k))
  listed f zero = ([], refl, λ k lt. absurd (omega (arith, lt)))
  listed f (suc n) =
      let l = listed f n in
      (l.0 ++ f n ∷ [], omega (arith, length_push l.0 (f n), l.1), each_pushed f l.0 (f n) l.2 (ap f (sym l.1)))

  -- what a `for` reads at its index
  pub read_at : (xs : List X) (i : ℕ) (x : X) → i < length xs → x ≡ get_or xs i x → slice_get xs i ≡ Some x
  read_at xs i x within read = slice_get_read xs (length xs) i x refl within read

module _ {X Y : Type 0} where
  pub mapped_at : (f : X → Y) (xs : List X) (ys : List Y) (i : ℕ) (x : X) → map f xs ≡ ys
      → slice_get xs i ≡ Some x → slice_get ys i ≡ Some (f x)
  mapped_at f xs ys i x e found = ap (λ l. slice_get l i) (sym e) ∙ slice_get-map f xs i ∙ ap (option_map f) found

-- Options.

module _ {X : Type 0} where
  pub cases_Option : (o : Option X) → ((x : X) × (o ≡ Some x)) ⊎ (o ≡ None)
  cases_Option None = inr refl
  cases_Option (Some x) = inl (x, refl)

  -- nothing is there where no value can be
  pub none_unless : (o : Option X) → ((x : X) → o ≡ Some x → ⊥) → o ≡ None
  none_unless None none = refl
  none_unless (Some x) none = absurd (none x refl)

  -- what passes is there
  pub passing : (p : X → Bool) (o : Option X) → option_map_or p o false ≡ true → (x : X) × (o ≡ Some x) × (p x ≡ true)
  passing p None e = absurd (false≢true e)
  passing p (Some x) e = (x, refl, e)

  -- what is reported, if anything, goes on like this
  pub told_more : (told : X) (adds : X → X) (made later : Option X) → IfSome made (λ tells. tells ≡ told) → later ≡ option_map adds made
      → IfSome later (λ tells. tells ≡ adds told)
  told_more told adds None later is more = rw more tt
  told_more told adds (Some tells) later is more = rw more (ap adds is)
