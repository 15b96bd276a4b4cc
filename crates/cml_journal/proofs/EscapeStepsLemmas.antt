-- A text is read byte by byte.
use Rattle.std.proofs.Common.{◌≡◌, ℕ, ◌<◌, Bool, true, false, ◌==◌, if◌then◌else◌, List, [], ◌∷◌, ◌++◌, length, Option, Some}
use Rattle.std.proofs.Common.{None, refl, sym, ap, subst, ◌∙◌, arith, append_assoc}
use Rattle.std.specs.Option.{option_map}
use Rattle.std.proofs.lemmas.Option.{none-some, cond_some}
use Rattle.std.proofs.lemmas.Bool.{eqb-true, false_from_ne_true}
use Rattle.std.proofs.lemmas.List.{append-nil}
use Rattle.cml_grammar.proofs.ListLemmas.{mapped_some}
use Rattle.cml_journal.specs.{is_plain, escaped, escape_at, byte_at, before, plain, bytes_in}
use Rattle.cml_journal.specs.EscapeLaws.{plain_first}

abbrev onto : ℕ → List ℕ → List ℕ
onto b rest = b ∷ rest

escape_step : (text : List ℕ) (b : ℕ) (rest : List ℕ) → escape_at text ≡ Some (b, rest)
    → (bytes_in (37 ∷ text) ≡ option_map (onto b) (bytes_in rest)) × (length rest < length text)
unfolding bytes_in
escape_step [] b rest e = absurd (none-some (b, rest) e)
escape_step (high ∷ []) b rest e = absurd (none-some (b, rest) e)
escape_step (high ∷ low ∷ bs) b rest e =
    let (byte, found, same) = mapped_some (λ (b : ℕ). (b, bs)) (escaped high low) (b, rest) e in
    subst (λ (y : ℕ × List ℕ). (bytes_in (37 ∷ high ∷ low ∷ bs) ≡ option_map (onto y.0) (bytes_in y.1))
    × (length y.1 < length (high ∷ low ∷ bs))) same
    (ap (λ (o : Option ℕ). before o (bytes_in bs)) found, omega arith)

pub byte_step : (text : List ℕ) (b : ℕ) (rest : List ℕ) → byte_at text ≡ Some (b, rest)
    → (bytes_in text ≡ option_map (onto b) (bytes_in rest)) × (length rest < length text)
byte_step [] b rest e = absurd (none-some (b, rest) e)
byte_step (a ∷ bs) b rest e = by (a == 37) refl e
  where
    Steps : ℕ × List ℕ → Type 0
    Steps y = (bytes_in (a ∷ bs) ≡ option_map (onto y.0) (bytes_in y.1)) × (length y.1 < length (a ∷ bs))

    by : (t : Bool) → (a == 37) ≡ t
        → (if t then escape_at bs else (if is_plain a then Some (a, bs) else None)) ≡ Some (b, rest) → Steps (b, rest)
    by true is f =
        let step = escape_step bs b rest f in
        subst (λ (c : ℕ). (bytes_in (c ∷ bs) ≡ option_map (onto b) (bytes_in rest)) × (length rest < length (c ∷ bs)))
        (sym (eqb-true a 37 is)) (step.0, omega (arith, step.1))
    by false is f =
        let parts = cond_some (is_plain a) (a, bs) (b, rest) f in
        subst Steps parts.1 (plain_first a bs parts.0, omega arith)

escape_end : (text : List ℕ) → escape_at text ≡ None → bytes_in (37 ∷ text) ≡ None
unfolding bytes_in
escape_end [] e = refl
escape_end (high ∷ []) e = refl
escape_end (high ∷ low ∷ bs) e = by (escaped high low) refl e
  where
    with_rest : ℕ → ℕ × List ℕ
    with_rest b = (b, bs)

    by : (o : Option ℕ) → escaped high low ≡ o → option_map with_rest o ≡ None → bytes_in (37 ∷ high ∷ low ∷ bs) ≡ None
    by None found f = ap (λ (o : Option ℕ). before o (bytes_in bs)) found
    by (Some b) found f = absurd (none-some (b, bs) (sym f))

bad_first : (a : ℕ) (bs : List ℕ) → (a == 37) ≡ false → is_plain a ≡ false → bytes_in (a ∷ bs) ≡ None
unfolding bytes_in
bad_first a [] is apart = ap (λ t. before (if t then Some a else None) (Some [])) apart
bad_first a (c ∷ []) is apart = ap (λ t. before (if t then Some a else None) (bytes_in (c ∷ []))) apart
bad_first a (c ∷ d ∷ bs) is apart =
    ap (λ t. if t then before (escaped c d) (bytes_in bs) else before (plain a) (bytes_in (c ∷ d ∷ bs))) is
    ∙ ap (λ t. before (if t then Some a else None) (bytes_in (c ∷ d ∷ bs))) apart

-- if no byte is next, the text is at its end or has no meaning
pub byte_end : (text : List ℕ) → byte_at text ≡ None → bytes_in text ≡ (if length text == 0 then Some [] else None)
unfolding bytes_in
byte_end [] e = refl
byte_end (a ∷ bs) e = by (a == 37) refl e ∙ ap (λ t. if t then Some [] else None)
    (sym (false_from_ne_true (length (a ∷ bs) == 0) (λ z. absurd (omega (arith, eqb-true (length (a ∷ bs)) 0 z)))))
  where
    whole : ℕ × List ℕ
    whole = (a, bs)

    plainly : (t : Bool) → (a == 37) ≡ false → is_plain a ≡ t → (if t then Some whole else None) ≡ None → bytes_in (a ∷ bs) ≡ None
    plainly true is plain f = absurd (none-some whole (sym f))
    plainly false is plain f = bad_first a bs is plain

    by : (t : Bool) → (a == 37) ≡ t → (if t then escape_at bs else (if is_plain a then Some whole else None)) ≡ None
        → bytes_in (a ∷ bs) ≡ None
    by true is f = ap (λ (c : ℕ). bytes_in (c ∷ bs)) (eqb-true a 37 is) ∙ escape_end bs f
    by false is f = plainly (is_plain a) is refl f

-- ---- the loop over a text
pub goes_on : (front rest : List ℕ) (b : ℕ) (later : List ℕ) (whole : Option (List ℕ)) → Some (b, later) ≡ byte_at rest
    → option_map (λ (more : List ℕ). front ++ more) (bytes_in rest) ≡ whole
    → option_map (λ (more : List ℕ). (front ++ b ∷ []) ++ more) (bytes_in later) ≡ whole
goes_on front rest b later whole next so_far =
    regrouped (bytes_in later) ∙ ap (option_map (λ (more : List ℕ). front ++ more)) (sym (byte_step rest b later (sym next)).0) ∙ so_far
  where
    regrouped : (o : Option (List ℕ)) → option_map (λ (more : List ℕ). (front ++ b ∷ []) ++ more) o
        ≡ option_map (λ (more : List ℕ). front ++ more) (option_map (onto b) o)
    regrouped None = refl
    regrouped (Some more) = ap (λ (r : List ℕ). Some r) (append_assoc front (b ∷ []) more)

pub ends : (front rest : List ℕ) (whole : Option (List ℕ)) → None ≡ byte_at rest
    → option_map (λ (more : List ℕ). front ++ more) (bytes_in rest) ≡ whole → (if length rest == 0 then Some front else None) ≡ whole
ends front rest whole next so_far = by (length rest == 0)
    ∙ ap (option_map (λ (more : List ℕ). front ++ more)) (sym (byte_end rest (sym next))) ∙ so_far
  where
    by : (t : Bool) → (if t then Some front else None) ≡ option_map (λ (more : List ℕ). front ++ more) (if t then Some [] else None)
    by true = ap (λ (r : List ℕ). Some r) (sym (append-nil front))
    by false = refl
