-- What begins a text of two parts.
use Rattle.std.proofs.Common.{◌≡◌, ℕ, ◌≤◌, Bool, true, false, ◌&&◌, List, [], ◌∷◌, ◌++◌, length, take, drop, refl, ap}
use Rattle.std.proofs.Common.{◌∙◌, arith}
use Rattle.std.specs.Prelude.{nat_eq}
use Rattle.std.specs.List.{starts_with}
use Rattle.std.specs.Str.{bytes_eq}

and_again : (a b c : Bool) → (a && (b && c)) ≡ ((a && b) && c)
and_again true b c = refl
and_again false b c = refl

-- a text that is no longer than the first part begins both if it begins that
pub begins_first : (one other text : List ℕ) → length text ≤ length one
    → starts_with nat_eq (one ++ other) text ≡ starts_with nat_eq one text
begins_first one other [] short = refl
begins_first [] other (b ∷ bs) short = absurd (omega (arith, short))
begins_first (a ∷ one) other (b ∷ bs) short = ap (λ t. nat_eq b a && t) (begins_first one other bs (omega (arith, short)))

-- a text that is longer has the first part, and what is behind begins the other
pub begins_both : (one other text : List ℕ) → length one ≤ length text
    → starts_with nat_eq (one ++ other) text
    ≡ (bytes_eq (take (length one) text) one && starts_with nat_eq other (drop (length one) text))
begins_both [] other text long = refl
begins_both (a ∷ one) other [] long = absurd (omega (arith, long))
begins_both (a ∷ one) other (b ∷ bs) long =
    ap (λ t. nat_eq b a && t) (begins_both one other bs (omega (arith, long)))
    ∙ and_again (nat_eq b a) (bytes_eq (take (length one) bs) one) (starts_with nat_eq other (drop (length one) bs))
