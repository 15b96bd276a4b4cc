-- Where the first line ends.
use Rattle.std.proofs.Common.{◌≡◌, ℕ, suc, ◌+◌, ◌-◌, length, Bool, true, false, cond, ◌==◌, ◌||◌, List, [], ◌∷◌, ◌++◌, position, slice_index}
use Rattle.std.proofs.Common.{take, drop, Option, Some, None, refl, sym, ap, subst, ◌∙◌, arith}
use Rattle.std.specs.Option.{option_map}
use Rattle.std.proofs.lemmas.Bool.{eqb-true, ne_eqb}
use Rattle.std.proofs.lemmas.List.{append-nil}
use Rattle.std.proofs.lemmas.Option.{none-some, same_Some}
use Rattle.cml_grammar.proofs.ListLemmas.{position-cons}
use Rattle.cml_journal.specs.{is_end, has_end}

abbrev pub first_end : List ℕ → Option ℕ
first_end bytes = position is_end bytes

pub no_line_end : (bytes : List ℕ) → first_end bytes ≡ None → has_end bytes ≡ false
no_line_end [] h = refl
no_line_end (b ∷ bs) h = by (is_end b) refl (first_end bs) refl (sym (position-cons is_end b bs) ∙ h) (no_line_end bs)
  where
    by : (t : Bool) → is_end b ≡ t → (o : Option ℕ) → first_end bs ≡ o → cond t (Some 0) (option_map suc o) ≡ None
        → (first_end bs ≡ None → has_end bs ≡ false) → has_end (b ∷ bs) ≡ false
    by true is o found f later = absurd (none-some 0 (sym f))
    by false is None found f later = ap (λ t. t || has_end bs) is ∙ later found
    by false is (Some i) found f later = absurd (none-some (suc i) (sym f))

-- an end that is no 0 ends a line
pub line_end_is : (b : ℕ) → is_end b ≡ true → (b ≡ 0 → ⊥) → b ≡ 10
line_end_is b is apart = eqb-true b 10 (sym (ap (λ t. t || (b == 10)) (ne_eqb b 0 apart)) ∙ is)

abbrev Parts : List ℕ → ℕ → Type 0
Parts bytes i = (bytes ≡ take i bytes ++ slice_index bytes i ∷ drop (i + 1) bytes) × (has_end (take i bytes) ≡ false)
    × (is_end (slice_index bytes i) ≡ true)

pub line_end_parts : (bytes : List ℕ) (i : ℕ) → first_end bytes ≡ Some i → Parts bytes i
line_end_parts [] i h = absurd (none-some i h)
line_end_parts (b ∷ bs) i h = by (is_end b) refl (first_end bs) refl (sym (position-cons is_end b bs) ∙ h) (line_end_parts bs)
  where
    by : (t : Bool) → is_end b ≡ t → (o : Option ℕ) → first_end bs ≡ o → cond t (Some 0) (option_map suc o) ≡ Some i
        → ((j : ℕ) → first_end bs ≡ Some j → Parts bs j) → Parts (b ∷ bs) i
    by true is o found f later = subst (Parts (b ∷ bs)) (same_Some 0 i f) (refl, refl, is)
    by false is None found f later = absurd (none-some i f)
    by false is (Some j) found f later =
        let parts = later j found in
        let next : suc j + 1 ≡ suc (j + 1) = omega arith in
        subst (Parts (b ∷ bs)) (same_Some (suc j) i f) (
          ap (λ (r : List ℕ). b ∷ r) parts.0
              ∙ ap (λ (n : ℕ). (b ∷ take j bs) ++ slice_index bs j ∷ drop n (b ∷ bs)) (sym next),
          ap (λ t. t || has_end (take j bs)) is ∙ parts.1,
          parts.2,
        )

-- what is left after all bytes
pub nothing_left : (bytes : List ℕ) → bytes ++ take (length bytes - length bytes) (drop (length bytes) bytes) ≡ bytes
nothing_left bytes =
    let none : length bytes - length bytes ≡ 0 = omega arith in
    ap (λ (n : ℕ). bytes ++ take n (drop (length bytes) bytes)) none ∙ append-nil bytes
