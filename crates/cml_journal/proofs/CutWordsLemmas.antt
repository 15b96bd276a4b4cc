-- Where a line is cut at a space, and a word loses its colon.
use Rattle.std.proofs.Common.{◌≡◌, ◌≢◌, ℕ, suc, ◌<◌, Bool, true, false, ◌==◌, ◌||◌, nat_le, if◌then◌else◌, List, [], ◌∷◌, ◌++◌}
use Rattle.std.proofs.Common.{length, get_or, Option, Some, None, refl, sym, ap, subst, ◌∙◌, arith}
use Rattle.std.specs.List.{list_any, list_all}
use Rattle.std.specs.Option.{option_map, MatchOption}
use Rattle.std.proofs.lemmas.Bool.{and_parts, or_parts, leb-true, eqb-true, ne_eqb}
use Rattle.std.proofs.lemmas.Option.{none-some, same_Some}
use denote.Ref.{Bor}
use Rattle.cml_calls.specs.{is_text_byte}
use Rattle.cml_grammar.proofs.ListLemmas.{mapped_some}
use Rattle.cml_journal.specs.{cut, without_colon}

abbrev pub has_space : List ℕ → Bool
has_space word = list_any (λ b. b == 32) word

abbrev pub behind_first : ℕ → List ℕ × List ℕ → List ℕ × List ℕ
behind_first b parts = (b ∷ parts.0, parts.1)

pub cut_again : (word rest : List ℕ) → has_space word ≡ false → cut (word ++ 32 ∷ rest) ≡ Some (word, rest)
cut_again [] rest h = refl
cut_again (b ∷ bs) rest h =
    let parts = or_parts (b == 32) (has_space bs) h in
    ap (λ t. if t then Some ([], bs ++ 32 ∷ rest) else option_map (behind_first b) (cut (bs ++ 32 ∷ rest))) parts.0
    ∙ ap (option_map (behind_first b)) (cut_again bs rest parts.1)

pub cut_none : (line : List ℕ) → has_space line ≡ false → cut line ≡ None
cut_none [] h = refl
cut_none (b ∷ bs) h =
    let parts = or_parts (b == 32) (has_space bs) h in
    ap (λ t. if t then Some ([], bs) else option_map (behind_first b) (cut bs)) parts.0
    ∙ ap (option_map (behind_first b)) (cut_none bs parts.1)

pub cut_takes : (line : List ℕ) (x : List ℕ × List ℕ) → cut line ≡ Some x → line ≡ x.0 ++ 32 ∷ x.1
cut_takes [] x h = absurd (none-some x h)
cut_takes (b ∷ bs) x h = by (b == 32) refl (cut_takes bs) h
  where
    by : (t : Bool) → (b == 32) ≡ t → ((y : List ℕ × List ℕ) → cut bs ≡ Some y → bs ≡ y.0 ++ 32 ∷ y.1)
        → (if t then Some ([], bs) else option_map (behind_first b) (cut bs)) ≡ Some x → b ∷ bs ≡ x.0 ++ 32 ∷ x.1
    by true e later f =
        subst (λ (y : List ℕ × List ℕ). b ∷ bs ≡ y.0 ++ 32 ∷ y.1) (same_Some ([], bs) x f) (ap (λ (c : ℕ). c ∷ bs) (eqb-true b 32 e))
    by false e later f =
        let (y, found, made) = mapped_some (behind_first b) (cut bs) x f in
        subst (λ (z : List ℕ × List ℕ). b ∷ bs ≡ z.0 ++ 32 ∷ z.1) made (ap (λ (r : List ℕ). b ∷ r) (later y found))

no_space : (word : List ℕ) → ((i : ℕ) → i < length word → get_or word i 0 ≢ 32) → has_space word ≡ false
no_space [] h = refl
no_space (b ∷ bs) h =
    ap (λ t. t || has_space bs) (ne_eqb b 32 (h 0 (omega arith))) ∙ no_space bs (λ i lt. h (suc i) (omega (arith, lt)))

-- a word of printed bytes has no space
pub printed_no_space : (word : List ℕ) → list_all is_text_byte word ≡ true → has_space word ≡ false
printed_no_space [] h = refl
printed_no_space (b ∷ bs) h =
    let parts = and_parts (is_text_byte b) (list_all is_text_byte bs) h in
    let above = leb-true 33 b (and_parts (nat_le 33 b) (nat_le b 126) parts.0).0 in
    ap (λ t. t || has_space bs) (ne_eqb b 32 (λ e. omega (arith, above, e))) ∙ printed_no_space bs parts.1

pub colon_no_space : (word : List ℕ) → has_space word ≡ false → has_space (word ++ 58 ∷ []) ≡ false
colon_no_space [] h = refl
colon_no_space (b ∷ bs) h =
    let parts = or_parts (b == 32) (has_space bs) h in
    ap (λ t. t || has_space (bs ++ 58 ∷ [])) parts.0 ∙ colon_no_space bs parts.1

-- what `split_once` gives at a space
pub cut_is : (line : List ℕ) (r : Option (Bor (List ℕ) × Bor (List ℕ)))
    → MatchOption r ((i : ℕ) → i < length line → get_or line i 0 ≢ 32)
    (λ x. (line ≡ x.0.now ++ 32 ∷ x.1.now) × ((i : ℕ) → i < length x.0.now → get_or x.0.now i 0 ≢ 32))
    → option_map (λ parts. (parts.0.now, parts.1.now)) r ≡ cut line
cut_is line None h = sym (cut_none line (no_space line h))
cut_is line (Some x) h = sym (ap cut h.0 ∙ cut_again x.0.now x.1.now (no_space x.0.now h.1))

-- ---- a colon at the end of a word
pub colon_again : (word : List ℕ) → without_colon (word ++ 58 ∷ []) ≡ Some word
colon_again [] = refl
colon_again (b ∷ []) = refl
colon_again (b ∷ c ∷ bs) = ap (option_map (λ (rest : List ℕ). b ∷ rest)) (colon_again (c ∷ bs))

pub colon_takes : (word x : List ℕ) → without_colon word ≡ Some x → word ≡ x ++ 58 ∷ []
colon_takes [] x h = absurd (none-some x h)
colon_takes (b ∷ []) x h = by (b == 58) refl h
  where
    by : (t : Bool) → (b == 58) ≡ t → (if t then Some [] else None) ≡ Some x → b ∷ [] ≡ x ++ 58 ∷ []
    by true e f = subst (λ (y : List ℕ). b ∷ [] ≡ y ++ 58 ∷ []) (same_Some [] x f) (ap (λ (c : ℕ). c ∷ []) (eqb-true b 58 e))
    by false e f = absurd (none-some x f)
colon_takes (b ∷ c ∷ bs) x h =
    let (y, found, made) = mapped_some (λ (rest : List ℕ). b ∷ rest) (without_colon (c ∷ bs)) x h in
    subst (λ (z : List ℕ). b ∷ c ∷ bs ≡ z ++ 58 ∷ []) made (ap (λ (r : List ℕ). b ∷ r) (colon_takes (c ∷ bs) y found))

-- what `strip_suffix` gives at a colon
pub without_colon_is : (word : List ℕ) (r : Option (Bor (List ℕ)))
    → MatchOption r ((front : List ℕ) → word ≢ front ++ 58 ∷ []) (λ x. word ≡ x.now ++ 58 ∷ [])
    → option_map (λ x. x.now) r ≡ without_colon word
without_colon_is word None h = by (without_colon word) refl
  where
    by : (o : Option (List ℕ)) → without_colon word ≡ o → None ≡ o
    by None e = refl
    by (Some x) e = absurd (h x (colon_takes word x e))
without_colon_is word (Some x) h = sym (ap without_colon h ∙ colon_again x.now)
