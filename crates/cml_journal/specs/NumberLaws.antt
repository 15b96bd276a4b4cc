-- The laws of numbers as words. A clause leads here, so this file can import no lemmas of the grammar: they import code's proofs.
use Rattle.std.proofs.Common.{◌≡◌, ℕ, ◌+◌, ◌<◌, ◌≤◌, ◌^◌, Bool, true, false, not, ◌==◌, ◌||◌, if◌then◌else◌, List, [], ◌∷◌, length, get_or}
use Rattle.std.proofs.Common.{Some, None, refl, sym, ap, subst, ◌∙◌, arith, true≢false, ◌⊎◌, inl, inr, eq-eqb}
use Rattle.std.specs.Fmt.{decimal}
use Rattle.std.specs.List.{list_all}
use Rattle.std.specs.Str.{all_ascii_digits}
use Rattle.std.specs.Str.Parse.{digits_value}
use Rattle.std.proofs.lemmas.Bool.{and_parts, and_from, or_cases, cases_lt, eqb-true, ltb-true, lt-ltb}
use Rattle.std.proofs.lemmas.Fmt.{decimal-digits_value, digits_decimal, digits_value-decimal, decimal_nonempty}
use Rattle.std.proofs.lemmas.Fmt.{first_decimal, decimal_digit}
use Rattle.std.proofs.lemmas.Option.{cond_some}
use Rattle.std.proofs.lemmas.Str.Parse.{numerals_by_value, tells_all_ascii_digits}
use Rattle.cml_calls.specs.{is_text_byte}
use Rattle.cml_calls.proofs.TextLemmas.{number_is_text}
use Rattle.cml_grammar.specs.{is_number}
use Rattle.cml_journal.specs.Numbers.{is_small, number_of}
use Rattle.cml_journal.specs.Written.{IsWritten}

-- digits without a zero in front are a number
number_from_digits : (digits : List ℕ) → all_ascii_digits digits ≡ true → 0 < length digits → (get_or digits 0 0 ≡ 48 → length digits ≡ 1)
    → digits_value 10 digits < 2 ^ 64 → is_number digits ≡ true
number_from_digits [] all some lone small = absurd (omega arith)
number_from_digits (b ∷ bs) all some lone small = and_from _ _ (and_from _ _ all (begins (b == 48) refl)) (lt-ltb _ _ small)
  where
    begins : (t : Bool) → (b == 48) ≡ t → (not t || length bs == 0) ≡ true
    begins false e = refl
    begins true e = eq-eqb (length bs) 0 (omega (arith, lone (eqb-true b 48 e)))

written_number : (n : ℕ) → n < 2 ^ 64 → is_number (decimal n) ≡ true
written_number n small =
    let own = numerals_by_value _ tells_all_ascii_digits in
    number_from_digits (decimal n) (digits_decimal own n small) (decimal_nonempty n small) (λ e. lone e (cases_lt 0 n))
    (subst (λ (m : ℕ). m < 2 ^ 64) (sym (digits_value-decimal own n small)) small)
  where
    lone : get_or (decimal n) 0 0 ≡ 48 → (0 < n) ⊎ (n ≤ 0) → length (decimal n) ≡ 1
    lone e (inl above) = absurd (omega (arith, first_decimal n above small, e))
    lone e (inr zeroth) = ap length (decimal_digit n (omega (arith, zeroth)))

number_word : (word : List ℕ) → is_number word ≡ true → word ≡ decimal (digits_value 10 word)
number_word [] h = absurd (true≢false (sym h))
number_word (b ∷ bs) h =
    let whole = and_parts _ _ h in
    let front = and_parts _ _ whole.0 in
    sym (decimal-digits_value (numerals_by_value _ tells_all_ascii_digits) (b ∷ bs) front.0 (omega arith)
    (λ e. lone e (or_cases _ _ front.1)) (ltb-true _ _ whole.1))
  where
    lone : b ≡ 48 → (not (b == 48) ≡ true) ⊎ ((length bs == 0) ≡ true) → length (b ∷ bs) ≡ 1
    lone e (inl n) = absurd (true≢false (sym n ∙ ap not (eq-eqb b 48 e)))
    lone e (inr z) = omega (arith, eqb-true (length bs) 0 z)

small_number : (word : List ℕ) → is_number word ≡ true → is_small (digits_value 10 word) ≡ true
small_number [] h = absurd (true≢false (sym h))
small_number (b ∷ bs) h = (and_parts _ _ h).1

pub number_again : (n : ℕ) → is_small n ≡ true → number_of (decimal n) ≡ Some n
number_again n small =
    let below = ltb-true n (2 ^ 64) small in
    ap (λ t. if t then Some (digits_value 10 (decimal n)) else None) (written_number n below)
    ∙ ap (λ (m : ℕ). Some m) (digits_value-decimal (numerals_by_value _ tells_all_ascii_digits) n below)

pub number_only : (word : List ℕ) (n : ℕ) → number_of word ≡ Some n → (word ≡ decimal n) × (is_small n ≡ true)
number_only word n h =
    let parts = cond_some (is_number word) (digits_value 10 word) n h in
    (number_word word parts.0 ∙ ap decimal parts.1, subst (λ (m : ℕ). is_small m ≡ true) parts.1 (small_number word parts.0))

pub number_printed : (n : ℕ) → is_small n ≡ true → list_all is_text_byte (decimal n) ≡ true
number_printed n small = (and_parts _ _ (number_is_text n (ltb-true n (2 ^ 64) small))).1

pub numbers_are_written : IsWritten decimal is_small number_of
numbers_are_written = record { again = number_again; only = number_only; printed = number_printed; apart = (refl, refl, refl, refl) }

pub sealed_3_is_small : 1 + 2 < 2 ^ 64
sealed_3_is_small = omega arith

pub sealed_4_is_small : 2 + 2 < 2 ^ 64
sealed_4_is_small = omega arith
