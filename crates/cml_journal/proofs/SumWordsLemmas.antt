-- A sum's word is read as this sum, and no other word is.
use Rattle.std.proofs.Common.{◌≡◌, ℕ, zero, suc, ◌*◌, ◌/◌, ◌%◌, ◌<◌, Bool, true, false, ◌&&◌, nat_le, if◌then◌else◌, List, [], ◌∷◌}
use Rattle.std.proofs.Common.{◌++◌, length, length-append, slice_index, Some, None, Result, Ok, Err, refl, ap, subst, ◌∙◌, arith}
use Rattle.std.specs.List.{list_all, AllByRecursion}
use Rattle.std.specs.Str.{bytes_eq}
use Rattle.std.specs.Int.{w32, to_be_bytes}
use Rattle.std.proofs.lemmas.Bool.{and_parts}
use Rattle.std.proofs.lemmas.Option.{none-some, same_Some}
use Rattle.std.proofs.lemmas.Slice.Eq.{bytes_eq-Decides}
use Rattle.hex.specs.Hex.{lower_digits, encode_with, encode_lower, decode_sized, IsBytes}
use Rattle.hex.specs.declared.error.FromHexError.{FromHexError}
use Rattle.hex.proofs.HexLemmas.{decode_sized-encode_lower, length-encode_with}
use Rattle.sha2.specs.Sha256.{digest_bytes}
use Rattle.cml_journal.specs.Sums.{Summed, nothing_summed, and_bytes, sum_by, sum_of}
use Rattle.cml_journal.proofs.SumsLemmas.{whole_sum}
use Rattle.cml_journal.specs.SumWords.{sum_word, sum_in, IsSum, sum_by_bytes}
use Rattle.cml_journal.specs.declared.sum.Sum.{Sum}

pub word_again : (sum : Sum) → IsSum sum → sum_in (sum_word sum) ≡ Some sum
word_again sum is =
    ap (sum_by_bytes (sum_word sum)) (decode_sized-encode_lower sum.0 32 is.0 is.1)
    ∙ ap (λ t. if t then Some sum else None) ((bytes_eq-Decides (sum_word sum) (sum_word sum)).1 refl)

pub word_takes : (word : List ℕ) (sum : Sum) → sum_in word ≡ Some sum → word ≡ sum_word sum
word_takes word sum e = by (decode_sized word 32) e
  where
    passed : (bytes : List ℕ) (t : Bool) → bytes_eq word (encode_lower bytes) ≡ t
        → (if t then Some (record { 0 = bytes }) else None) ≡ Some sum → word ≡ sum_word sum
    passed bytes true same f =
        (bytes_eq-Decides word (encode_lower bytes)).0 same ∙ ap sum_word (same_Some (record { 0 = bytes }) sum f)
    passed bytes false same f = absurd (none-some sum f)

    by : (r : Result (List ℕ) FromHexError) → sum_by_bytes word r ≡ Some sum → word ≡ sum_word sum
    by (Ok bytes) f = passed bytes (bytes_eq word (encode_lower bytes)) refl f
    by (Err error) f = absurd (none-some sum f)

-- ---- a digest's bytes
abbrev AreSmall : List ℕ → Type 0
AreSmall bytes = AllByRecursion (λ (b : ℕ). b < 256) bytes

both_small : (one other : List ℕ) → AreSmall one → AreSmall other → AreSmall (one ++ other)
both_small [] other small more = more
both_small (b ∷ bs) other small more = (small.0, both_small bs other small.1 more)

word_small : (n : ℕ) → AreSmall (to_be_bytes w32 n)
word_small n = (omega arith, (omega arith, (omega arith, (omega arith, tt))))

digest_small : (h : List ℕ) (n : ℕ) → AreSmall (digest_bytes h n)
unfolding digest_bytes
digest_small h zero = tt
digest_small h (suc n) = both_small (digest_bytes h n) (to_be_bytes w32 (slice_index h n)) (digest_small h n) (word_small (slice_index h n))

small_bytes : (bytes : List ℕ) → AreSmall bytes → IsBytes bytes
small_bytes [] small i = omega arith
small_bytes (b ∷ bs) small zero = small.0
small_bytes (b ∷ bs) small (suc i) = small_bytes bs small.1 i

digest_length : (h : List ℕ) (n : ℕ) → length (digest_bytes h n) ≡ n * 4
unfolding digest_bytes
digest_length h zero = refl
digest_length h (suc n) =
    omega (arith, digest_length h n, length-append (digest_bytes h n) (to_be_bytes w32 (slice_index h n)))

-- a text's sum is one, however far the text is
pub has_sum : (summed : Summed) → IsSum (sum_by summed)
has_sum summed = (digest_length _ 8, small_bytes (sum_by summed).0 (digest_small _ 8))

pub text_has_sum : (text : List ℕ) → IsSum (sum_of text)
text_has_sum text = subst IsSum (whole_sum text) (has_sum (and_bytes nothing_summed text))

-- ---- a word's bytes
abbrev pub is_printed : ℕ → Bool
is_printed b = nat_le 33 b && nat_le b 126

printed_at : (digits : List ℕ) (k : ℕ) → list_all is_printed digits ≡ true → k < length digits → is_printed (slice_index digits k) ≡ true
printed_at [] k all within = absurd (omega (arith, within))
printed_at (d ∷ ds) zero all within = (and_parts (is_printed d) (list_all is_printed ds) all).0
printed_at (d ∷ ds) (suc k) all within =
    printed_at ds k (and_parts (is_printed d) (list_all is_printed ds) all).1 (omega (arith, within))

digits_printed : (bytes : List ℕ) → IsBytes bytes → list_all is_printed (encode_with lower_digits bytes) ≡ true
unfolding encode_with
digits_printed [] is = refl
digits_printed (b ∷ bs) is =
    let small : b < 256 = is 0 in
    ap (λ t. t && (is_printed (slice_index lower_digits (b % 16)) && list_all is_printed (encode_with lower_digits bs)))
    (printed_at lower_digits (b / 16) refl (omega (arith, small)))
    ∙ ap (λ t. t && list_all is_printed (encode_with lower_digits bs)) (printed_at lower_digits (b % 16) refl (omega arith))
    ∙ digits_printed bs (λ i. is (suc i))

pub word_printed : (sum : Sum) → IsSum sum → list_all is_printed (sum_word sum) ≡ true
word_printed sum is = digits_printed sum.0 is.1

pub word_length : (sum : Sum) → IsSum sum → length (sum_word sum) ≡ 64
word_length sum is = omega (arith, length-encode_with lower_digits sum.0, is.0)
