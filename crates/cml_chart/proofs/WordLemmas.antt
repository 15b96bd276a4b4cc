-- A word that ends with a colon, and one that doesn't.
use Rattle.std.proofs.Common.{◌≡◌, ◌≢◌, ℕ, List, [], ◌∷◌, ◌++◌, Option, Some, None, refl, sym, ap, ◌∙◌, lit<, if◌then◌else◌}
use Rattle.std.proofs.lemmas.Bool.{ne_eqb}
use Rattle.std.proofs.lemmas.Str.Pattern.{strip_suffix_char}
use Rattle.std.specs.Str.Pattern.{FindsCharSuffix, StripsSuffix}
use Rattle.std.specs.Option.{option_map, MatchOption}
use denote.Ref.{Bor}
use Rattle.cml_chart.specs.{before_colon}

with_colon : (front : List ℕ) → before_colon (front ++ 58 ∷ []) ≡ Some front
with_colon [] = refl
with_colon (b ∷ []) = refl
with_colon (b ∷ c ∷ bs) = ap (option_map (λ front. b ∷ front)) (with_colon (c ∷ bs))

without_colon : (word : List ℕ) → ((front : List ℕ) → word ≢ front ++ 58 ∷ []) → before_colon word ≡ None
without_colon [] never = refl
without_colon (b ∷ []) never = ap (λ t. if t then Some [] else None) (ne_eqb b 58 (λ e. never [] (ap (λ x. x ∷ []) e)))
without_colon (b ∷ c ∷ bs) never =
    ap (option_map (λ front. b ∷ front)) (without_colon (c ∷ bs) (λ front e. never (b ∷ front) (ap (λ l. b ∷ l) e)))

-- what `strip_suffix` says of a word at a colon
pub stripped : (word : List ℕ) (r : Option (Bor (List ℕ)))
    → MatchOption r (FindsCharSuffix 58 word None) (λ x. StripsSuffix (FindsCharSuffix 58) word x.now)
    → option_map (λ (x : Bor (List ℕ)). x.now) r ≡ before_colon word
stripped word None h = sym (without_colon word (strip_suffix_char 58 word None h (lit< tt)))
stripped word (Some x) h = sym (ap before_colon (strip_suffix_char 58 word (Some x) h (lit< tt)) ∙ with_colon x.now)
