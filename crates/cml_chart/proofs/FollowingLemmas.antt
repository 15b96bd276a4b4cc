-- What the lines of a script add, one after the other, and the objects that are left.
use Rattle.std.proofs.Common.{◌≡◌, ◌≢◌, ℕ, zero, suc, ◌+◌, ◌<◌, min, List, [], ◌∷◌, ◌++◌, length, map, drop, get_or, slice_get}
use Rattle.std.proofs.Common.{Option, Some, None, refl, sym, ap, ◌∙◌, arith, add-one}
use Rattle.std.specs.List.{filter_map, cons_option}
use Rattle.std.specs.Option.{option_to_list}
use Rattle.std.proofs.lemmas.List.{append-nil, append_assoc}
use Rattle.std.proofs.lemmas.Option.{same_Some, none-some, slice_get-get_or}
use Rattle.cml_chart.specs.{Thing, texts, strange_thing}
use denote.Ref.{Bor}
use Rattle.cml_chart.specs.Plan.{Made}

dropped : {X : Type 0} (xs : List X) (k : ℕ) (x : X) → slice_get xs k ≡ Some x → drop k xs ≡ x ∷ drop (k + 1) xs
dropped [] k x found = absurd (none-some x found)
dropped (y ∷ ys) zero x found = ap (λ z. z ∷ ys) (same_Some y x found)
dropped (y ∷ ys) (suc k) x found = let ih = rw add-one at (dropped ys k x found) in rw add-one ih

grown : {X : Type 0} (xs : List X) (added : Option X) (rest : List X) → (xs ++ option_to_list added) ++ rest ≡ xs ++ cons_option added rest
grown xs None rest = ap (λ l. l ++ rest) (append-nil xs)
grown xs (Some x) rest = append_assoc xs (x ∷ []) rest

-- what one line adds, and what the later lines add after it
pub grown_at : {X S Y : Type 0} (src : X → S) (f : S → Option Y) (ds : List X) (i : ℕ) (d : X) (ys zs whole : List Y)
    → i < length ds → d ≡ get_or ds i d
    → zs ≡ ys ++ option_to_list (f (src d)) → ys ++ filter_map f (map src (drop i ds)) ≡ whole
    → zs ++ filter_map f (map src (drop (i + 1) ds)) ≡ whole
grown_at src f ds i d ys zs whole within is more so_far =
    ap (λ l. l ++ filter_map f (map src (drop (i + 1) ds))) more
    ∙ grown ys (f (src d)) (filter_map f (map src (drop (i + 1) ds)))
    ∙ sym (ap (λ l. ys ++ filter_map f (map src l)) (dropped ds i d (slice_get-get_or ds i d within ∙ ap (λ x. Some x) (sym is))))
    ∙ so_far

pub no_third : (words : List (Bor (List ℕ))) → length words < 3 → slice_get (texts words) 2 ≡ None
no_third [] h = refl
no_third (a ∷ []) h = refl
no_third (a ∷ b ∷ []) h = refl
no_third (a ∷ b ∷ c ∷ words) h = absurd (omega arith)

-- one of two lists is at its end, and the other is not
pub uneven : (k : ℕ) (things : List Thing) (made : List Made) → min (length things) (length made) ≡ 0 → length things ≢ length made
    → strange_thing k things made ≡ Some k
uneven k [] [] none apart = absurd (apart refl)
uneven k [] (m ∷ ms) none apart = refl
uneven k (t ∷ ts) [] none apart = refl
uneven k (t ∷ ts) (m ∷ ms) none apart = absurd (omega arith)
