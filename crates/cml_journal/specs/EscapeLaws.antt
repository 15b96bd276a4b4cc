-- The laws of bytes as words.
use Rattle.std.proofs.Common.{◌≡◌, ℕ, ◌+◌, ◌*◌, ◌/◌, ◌%◌, ◌<◌, ◌^◌, Bool, true, false, not, ◌==◌, nat_lt, nat_le, if◌then◌else◌, List}
use Rattle.std.proofs.Common.{[], ◌∷◌, ◌++◌, length, Option, Some, None, refl, sym, ap, subst, ◌∙◌, arith, true≢false}
use Rattle.std.specs.Fmt.{digit_glyph}
use Rattle.std.specs.List.{flat_map, list_all}
use Rattle.std.specs.Option.{option_map, option_and_then}
use Rattle.std.proofs.lemmas.Bool.{and_parts, and_from, leb-true, ltb-true, lt-ltb, eqb-true}
use Rattle.std.proofs.lemmas.Bool.Decides.{nat_tests}
use Rattle.std.proofs.lemmas.Option.{none-some, same_Some, cond_some}
use Rattle.cml_calls.specs.{is_text_byte}
use Rattle.cml_journal.specs.Written.{IsWritten}
use Rattle.cml_journal.specs.Escapes.{is_plain, byte_text, bytes_text, are_bytes, is_message, digit_in, unless_plain, escaped}
use Rattle.cml_journal.specs.Escapes.{before, plain, bytes_in, if_short, message_of_word}

-- ---- hex digits
glyph_is_digit : (d : ℕ) → d < 16 → digit_in (digit_glyph true d) ≡ Some d
glyph_is_digit d small = grind (arith, nat_tests)

digit_is_glyph : (b d : ℕ) → digit_in b ≡ Some d → (b ≡ digit_glyph true d) × (d < 16)
digit_is_glyph b d h = grind (arith, nat_tests)

glyph_printed : (d : ℕ) → d < 16 → is_text_byte (digit_glyph true d) ≡ true
glyph_printed d small = grind (arith, nat_tests)

pub not_plain_byte : (b : ℕ) → is_plain b ≡ true → (b == 37) ≡ false
not_plain_byte b h = by (b == 37) (and_parts (is_text_byte b) (not (b == 37)) h).1
  where
    by : (t : Bool) → not t ≡ true → t ≡ false
    by false e = refl
    by true e = absurd (true≢false (sym e))

escaped_again : (b : ℕ) → b < 256 → is_plain b ≡ false → escaped (digit_glyph true (b / 16)) (digit_glyph true (b % 16)) ≡ Some b
escaped_again b small apart =
    let whole : b / 16 * 16 + b % 16 ≡ b = omega arith in
    let high : b / 16 < 16 = omega arith in
    let low : b % 16 < 16 = omega arith in
    ap (λ (o : Option ℕ). option_and_then (λ h. option_and_then (λ l. unless_plain (h * 16 + l)) (digit_in (digit_glyph true (b % 16)))) o)
    (glyph_is_digit (b / 16) high)
    ∙ ap (λ (o : Option ℕ). option_and_then (λ l. unless_plain (b / 16 * 16 + l)) o) (glyph_is_digit (b % 16) low)
    ∙ ap unless_plain whole
    ∙ ap (λ t. if t then None else Some b) apart

-- two hex digits of a byte that isn't written as it is
record IsEscape (high low b : ℕ) : Type 0 where
  first : high ≡ digit_glyph true (b / 16)
  second : low ≡ digit_glyph true (b % 16)
  small : b < 256
  apart : is_plain b ≡ false

escaped_takes : (high low b : ℕ) → escaped high low ≡ Some b → IsEscape high low b
escaped_takes high low b e = by (digit_in high) refl (digit_in low) refl e
  where
    is : (h l : ℕ) → digit_in high ≡ Some h → digit_in low ≡ Some l → (t : Bool) → is_plain (h * 16 + l) ≡ t
        → (if t then None else Some (h * 16 + l)) ≡ Some b → IsEscape high low b
    is h l is_high is_low true plain f = absurd (none-some b f)
    is h l is_high is_low false plain f =
        let same = same_Some (h * 16 + l) b f in
        let first = digit_is_glyph high h is_high in
        let second = digit_is_glyph low l is_low in
        let upper : h ≡ b / 16 = omega (arith, same, first.1, second.1) in
        let lower : l ≡ b % 16 = omega (arith, same, first.1, second.1) in
        record {
          first = first.0 ∙ ap (digit_glyph true) upper;
          second = second.0 ∙ ap (digit_glyph true) lower;
          small = omega (arith, same, first.1, second.1);
          apart = sym (ap is_plain same) ∙ plain;
        }

    by : (oh : Option ℕ) → digit_in high ≡ oh → (ol : Option ℕ) → digit_in low ≡ ol
        → option_and_then (λ h. option_and_then (λ l. unless_plain (h * 16 + l)) ol) oh ≡ Some b → IsEscape high low b
    by None is_high ol is_low f = absurd (none-some b f)
    by (Some h) is_high None is_low f = absurd (none-some b f)
    by (Some h) is_high (Some l) is_low f = is h l is_high is_low (is_plain (h * 16 + l)) refl f

-- ---- bytes
pub plain_first : (b : ℕ) (rest : List ℕ) → is_plain b ≡ true
    → bytes_in (b ∷ rest) ≡ option_map (λ (more : List ℕ). b ∷ more) (bytes_in rest)
unfolding bytes_in
plain_first b [] h = ap (λ t. before (if t then Some b else None) (Some [])) h
plain_first b (c ∷ []) h = ap (λ t. before (if t then Some b else None) (bytes_in (c ∷ []))) h
plain_first b (c ∷ d ∷ bs) h =
    ap (λ t. if t then before (escaped c d) (bytes_in bs) else before (plain b) (bytes_in (c ∷ d ∷ bs))) (not_plain_byte b h)
    ∙ ap (λ t. before (if t then Some b else None) (bytes_in (c ∷ d ∷ bs))) h

pub bytes_again : (bytes : List ℕ) → are_bytes bytes ≡ true → bytes_in (flat_map byte_text bytes) ≡ Some bytes
unfolding bytes_in
bytes_again [] fit = refl
bytes_again (b ∷ bs) fit =
    let parts = and_parts (nat_lt b (2 ^ 8)) (are_bytes bs) fit in
    by (is_plain b) refl (ltb-true b (2 ^ 8) parts.0) (bytes_again bs parts.1)
  where
    rest : List ℕ
    rest = flat_map byte_text bs

    text : Bool → List ℕ
    text t = if t then b ∷ [] else 37 ∷ digit_glyph true (b / 16) ∷ digit_glyph true (b % 16) ∷ []

    by : (t : Bool) → is_plain b ≡ t → b < 2 ^ 8 → bytes_in rest ≡ Some bs → bytes_in (byte_text b ++ rest) ≡ Some (b ∷ bs)
    by true is small later = ap (λ t. bytes_in (text t ++ rest)) is ∙ plain_first b rest is
        ∙ ap (option_map (λ (more : List ℕ). b ∷ more)) later
    by false is small later =
        ap (λ t. bytes_in (text t ++ rest)) is
        ∙ ap (λ (o : Option ℕ). before o (bytes_in rest)) (escaped_again b small is)
        ∙ ap (option_map (λ (more : List ℕ). b ∷ more)) later

abbrev AreText : List ℕ → List ℕ → Type 0
AreText text bytes = (text ≡ flat_map byte_text bytes) × (are_bytes bytes ≡ true)

plain_small : (b : ℕ) → is_plain b ≡ true → nat_lt b (2 ^ 8) ≡ true
plain_small b h = lt-ltb b (2 ^ 8)
    (omega (arith, leb-true b 126 (and_parts (nat_le 33 b) (nat_le b 126) (and_parts (is_text_byte b) (not (b == 37)) h).0).1))

-- a byte that is written as it is, before a text
plain_takes : (b : ℕ) (rest : List ℕ) (o : Option (List ℕ)) (bytes : List ℕ) → ((more : List ℕ) → o ≡ Some more → AreText rest more)
    → before (plain b) o ≡ Some bytes → AreText (b ∷ rest) bytes
plain_takes b rest o bytes later e = by (is_plain b) refl o refl e
  where
    text : Bool → List ℕ
    text t = if t then b ∷ [] else 37 ∷ digit_glyph true (b / 16) ∷ digit_glyph true (b % 16) ∷ []

    by : (t : Bool) → is_plain b ≡ t → (p : Option (List ℕ)) → o ≡ p
        → before (if t then Some b else None) p ≡ Some bytes → AreText (b ∷ rest) bytes
    by false is p found f = absurd (none-some bytes f)
    by true is None found f = absurd (none-some bytes f)
    by true is (Some more) found f =
        let parts = later more found in
        let whole : b ∷ rest ≡ byte_text b ++ flat_map byte_text more = ap (λ (r : List ℕ). b ∷ r) parts.0
        ∙ ap (λ t. text t ++ flat_map byte_text more) (sym is) in
        subst (AreText (b ∷ rest)) (same_Some (b ∷ more) bytes f) (whole, and_from _ _ (plain_small b is) parts.1)

-- `%` and two hex digits, before a text
escape_takes : (high low : ℕ) (rest : List ℕ) (o : Option (List ℕ)) (bytes : List ℕ) → ((more : List ℕ) → o ≡ Some more → AreText rest more)
    → before (escaped high low) o ≡ Some bytes → AreText (37 ∷ high ∷ low ∷ rest) bytes
escape_takes high low rest o bytes later e = by (escaped high low) refl o refl e
  where
    by : (q : Option ℕ) → escaped high low ≡ q → (p : Option (List ℕ)) → o ≡ p → before q p ≡ Some bytes
        → AreText (37 ∷ high ∷ low ∷ rest) bytes
    by None is p found f = absurd (none-some bytes f)
    by (Some b) is None found f = absurd (none-some bytes f)
    by (Some b) is (Some more) found f =
        let text : Bool → List ℕ = λ t. if t then b ∷ [] else 37 ∷ digit_glyph true (b / 16) ∷ digit_glyph true (b % 16) ∷ [] in
        let parts = later more found in
        let escape = escaped_takes high low b is in
        let whole : 37 ∷ high ∷ low ∷ rest ≡ byte_text b ++ flat_map byte_text more =
        ap (λ (r : List ℕ). 37 ∷ high ∷ low ∷ r) parts.0
        ∙ ap (λ (h : ℕ). 37 ∷ h ∷ low ∷ flat_map byte_text more) escape.first
        ∙ ap (λ (l : ℕ). 37 ∷ digit_glyph true (b / 16) ∷ l ∷ flat_map byte_text more) escape.second
        ∙ ap (λ t. text t ++ flat_map byte_text more) (sym escape.apart) in
        subst (AreText (37 ∷ high ∷ low ∷ rest)) (same_Some (b ∷ more) bytes f)
        (whole, and_from _ _ (lt-ltb b (2 ^ 8) escape.small) parts.1)

pub bytes_take : (text bytes : List ℕ) → bytes_in text ≡ Some bytes → AreText text bytes
unfolding bytes_in
bytes_take [] bytes e = subst (AreText []) (same_Some [] bytes e) (refl, refl)
bytes_take (b ∷ []) bytes e = plain_takes b [] (Some []) bytes (λ more is. subst (AreText []) (same_Some [] more is) (refl, refl)) e
bytes_take (b ∷ c ∷ []) bytes e = plain_takes b (c ∷ []) (bytes_in (c ∷ [])) bytes (λ more is. bytes_take (c ∷ []) more is) e
bytes_take (b ∷ c ∷ d ∷ bs) bytes e = by (b == 37) refl (λ more is. bytes_take bs more is) (λ more is. bytes_take (c ∷ d ∷ bs) more is) e
  where
    by : (t : Bool) → (b == 37) ≡ t → ((more : List ℕ) → bytes_in bs ≡ Some more → AreText bs more)
        → ((more : List ℕ) → bytes_in (c ∷ d ∷ bs) ≡ Some more → AreText (c ∷ d ∷ bs) more)
        → (if t then before (escaped c d) (bytes_in bs) else before (plain b) (bytes_in (c ∷ d ∷ bs))) ≡ Some bytes
        → AreText (b ∷ c ∷ d ∷ bs) bytes
    by true is behind later f =
        subst (λ (a : ℕ). AreText (a ∷ c ∷ d ∷ bs) bytes) (sym (eqb-true b 37 is)) (escape_takes c d bs (bytes_in bs) bytes behind f)
    by false is behind later f = plain_takes b (c ∷ d ∷ bs) (bytes_in (c ∷ d ∷ bs)) bytes later f

-- ---- messages
message_again : (bytes : List ℕ) → is_message bytes ≡ true → message_of_word (bytes_text bytes) ≡ Some bytes
message_again bytes fit =
    let parts = and_parts (nat_lt (length bytes) (2 ^ 32)) (are_bytes bytes) fit in
    ap (option_and_then if_short) (bytes_again bytes parts.1) ∙ ap (λ t. if t then Some bytes else None) parts.0

message_only : (word bytes : List ℕ) → message_of_word word ≡ Some bytes → (word ≡ bytes_text bytes) × (is_message bytes ≡ true)
message_only [] bytes e = absurd (none-some bytes e)
message_only (b ∷ bs) bytes e = by (b == 61) refl (bytes_in bs) refl e
  where
    by : (t : Bool) → (b == 61) ≡ t → (o : Option (List ℕ)) → bytes_in bs ≡ o
        → (if t then option_and_then if_short o else None) ≡ Some bytes → (b ∷ bs ≡ bytes_text bytes) × (is_message bytes ≡ true)
    by false is o found f = absurd (none-some bytes f)
    by true is None found f = absurd (none-some bytes f)
    by true is (Some more) found f =
        let short = cond_some (nat_lt (length more) (2 ^ 32)) more bytes f in
        let parts = bytes_take bs more found in
        let whole : b ∷ bs ≡ bytes_text more = ap (λ (a : ℕ). a ∷ bs) (eqb-true b 61 is) ∙ ap (λ (r : List ℕ). 61 ∷ r) parts.0 in
        subst (λ (m : List ℕ). (b ∷ bs ≡ bytes_text m) × (is_message m ≡ true)) short.1 (whole, and_from _ _ short.0 parts.1)

bytes_printed : (bytes : List ℕ) → are_bytes bytes ≡ true → list_all is_text_byte (flat_map byte_text bytes) ≡ true
bytes_printed [] fit = refl
bytes_printed (b ∷ bs) fit =
    let parts = and_parts (nat_lt b (2 ^ 8)) (are_bytes bs) fit in
    by (is_plain b) refl (ltb-true b (2 ^ 8) parts.0) (bytes_printed bs parts.1)
  where
    text : Bool → List ℕ
    text t = if t then b ∷ [] else 37 ∷ digit_glyph true (b / 16) ∷ digit_glyph true (b % 16) ∷ []

    rest : List ℕ
    rest = flat_map byte_text bs

    by : (t : Bool) → is_plain b ≡ t → b < 2 ^ 8 → list_all is_text_byte rest ≡ true → list_all is_text_byte (byte_text b ++ rest) ≡ true
    by true is small later =
        ap (λ t. list_all is_text_byte (text t ++ rest)) is ∙ and_from _ _ (and_parts (is_text_byte b) (not (b == 37)) is).0 later
    by false is small later =
        ap (λ t. list_all is_text_byte (text t ++ rest)) is
        ∙ and_from _ _ (glyph_printed (b / 16) (omega arith)) (and_from _ _ (glyph_printed (b % 16) (omega arith)) later)

message_printed : (bytes : List ℕ) → is_message bytes ≡ true → list_all is_text_byte (bytes_text bytes) ≡ true
message_printed bytes fit = bytes_printed bytes (and_parts (nat_lt (length bytes) (2 ^ 32)) (are_bytes bytes) fit).1

pub bytes_are_written : IsWritten bytes_text is_message message_of_word
bytes_are_written = record { again = message_again; only = message_only; printed = message_printed; apart = (refl, refl, refl, refl) }
