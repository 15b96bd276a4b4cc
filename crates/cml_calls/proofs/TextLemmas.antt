-- Texts: how their bytes are tested, and why they are UTF-8 and a number's digits are one.
use Rattle.std.proofs.Common.{◌≡◌, ℕ, zero, suc, ◌^◌, ◌<◌, ◌≤◌, true, false, ◌&&◌, nat_le, List, [], ◌∷◌, length, refl, ◌∙◌, arith}
use Rattle.std.specs.Fmt.{decimal}
use Rattle.std.specs.List.{list_all}
use Rattle.std.specs.Str.{IsAscii, IsUtf8, all_ascii_digits}
use Rattle.std.specs.Char.{is_ascii_digit}
use Rattle.std.proofs.lemmas.Bool.{le-leb, leb-true, and_parts, and_from}
use Rattle.std.proofs.lemmas.Fmt.{digits_decimal, decimal_nonempty, length-decimal-le}
use Rattle.std.proofs.lemmas.Str.{IsUtf8-from_ascii}
use Rattle.std.proofs.lemmas.Str.Parse.{numerals_by_value, tells_all_ascii_digits}
use Rattle.cml_calls.specs.{is_text_byte, is_text}

-- bytes of a right number are tested one by one
pub text_by_bytes : (bs : List ℕ) → 1 ≤ length bs → length bs ≤ 64 → is_text bs ≡ list_all is_text_byte bs
text_by_bytes bs some short = λ j. le-leb 1 (length bs) some j && le-leb (length bs) 64 short j && list_all is_text_byte bs

pub none_is_no_text : (bs : List ℕ) → length bs ≡ 0 → is_text bs ≡ false
none_is_no_text [] h = refl
none_is_no_text (b ∷ bs) h = absurd (omega arith)

ascii : (bs : List ℕ) → list_all is_text_byte bs ≡ true → IsAscii bs
ascii [] h i = omega arith
ascii (b ∷ bs) h zero = omega (arith, leb-true b 126 (and_parts _ _ (and_parts _ _ h).0).1)
ascii (b ∷ bs) h (suc i) = ascii bs (and_parts _ _ h).1 i

pub text_is_utf8 : (bs : List ℕ) → is_text bs ≡ true → IsUtf8 bs
text_is_utf8 bs h = IsUtf8-from_ascii bs (ascii bs (and_parts _ _ h).1)

digits_are_bytes : (bs : List ℕ) → all_ascii_digits bs ≡ true → list_all is_text_byte bs ≡ true
digits_are_bytes [] h = refl
digits_are_bytes (b ∷ bs) h =
    let parts = and_parts (is_ascii_digit b) (all_ascii_digits bs) h in
    let digit = and_parts (nat_le 48 b) (nat_le b 57) parts.0 in
    and_from _ _ (and_from _ _ (le-leb 33 b (omega (arith, leb-true 48 b digit.0))) (le-leb b 126 (omega (arith, leb-true b 57 digit.1))))
    (digits_are_bytes bs parts.1)

pub number_is_text : (n : ℕ) → n < 2 ^ 64 → is_text (decimal n) ≡ true
number_is_text n small =
    text_by_bytes (decimal n) (decimal_nonempty n small) (omega (arith, length-decimal-le 20 n (omega arith) (omega (arith, small)) small))
    ∙ digits_are_bytes (decimal n) (digits_decimal (numerals_by_value _ tells_all_ascii_digits) n small)
