-- A text that is summed byte by byte has its SHA-256.
use Rattle.std.proofs.Common.{◌≡◌, ◌⊎◌, inl, inr, ℕ, ◌+◌, ◌*◌, ◌/◌, ◌%◌, ◌^◌, ◌-◌, ◌<◌, ◌≤◌, Bool, true, false, ◌==◌, if◌then◌else◌, List}
use Rattle.std.proofs.Common.{[], ◌∷◌}
use Rattle.std.proofs.Common.{◌++◌, length, take, drop, replicate, refl, sym, ap, ◌∙◌, arith, append_assoc, length-append, length-drop}
use Rattle.std.proofs.lemmas.Bool.{eqb-true, eq-eqb, cases_lt, false≢true}
use Rattle.std.proofs.lemmas.List.{append-nil, take_all}
use Rattle.std.specs.Int.{w64, to_be_bytes}
use Rattle.sha2.specs.Sha256.{initial_hash_256, hash_after, compress, padding, digest_bytes, sha256, IsAbsorbed}
use Rattle.sha2.specs.Hashers.{Holds256}
use Rattle.sha2.specs.declared.Sha256.{Sha256}
use Rattle.sha2.proofs.Absorbing256.{IsAbsorbed_short, IsAbsorbed_fill, Holds_total, Holds-IsAbsorbed}
use Rattle.cml_journal.specs.Sums.{Summed, nothing_summed, and_byte, and_bytes, sum_by, sum_of, summed_of}
use Rattle.cml_journal.specs.declared.sum.Sum.{Sum}

-- how far a text is summed, all at once
abbrev at_end : List ℕ → Summed
at_end text = record {
  count = length text % 2 ^ 64;
  value = hash_after initial_hash_256 text (length text / 64);
  left = drop (length text / 64 * 64) text;
}

abbrev the_summed : ℕ → List ℕ → List ℕ → Summed
the_summed count value left = record { count = count; value = value; left = left }

abbrev sum_record : List ℕ → Sum
sum_record bytes = record { 0 = bytes }

few_left : (left rest : ℕ) → left ≡ rest → (left == 63) ≡ false → rest < 64 → rest + 1 < 64
few_left left rest same not_full small = by_cases (cases_lt (rest + 1) 64)
  where
    by_cases : (rest + 1 < 64) ⊎ (64 ≤ rest + 1) → rest + 1 < 64
    by_cases (inl less) = less
    by_cases (inr more) = absurd (false≢true (sym not_full ∙ eq-eqb left 63 (omega (arith, same, small, more))))

same_summed : (n m : ℕ) (v w l k : List ℕ) → n ≡ m → v ≡ w → l ≡ k → the_summed n v l ≡ the_summed m w k
same_summed n m v w l k one two three =
    ap (λ (x : ℕ). the_summed x v l) one ∙ ap (λ (x : List ℕ). the_summed m x l) two ∙ ap (λ (x : List ℕ). the_summed m w x) three

left_length : (text : List ℕ) → length (drop (length text / 64 * 64) text) ≡ length text % 64
left_length text = length-drop (length text / 64 * 64) text ∙ omega arith

absorbed : (text : List ℕ) → IsAbsorbed initial_hash_256 (at_end text).value (at_end text).left text
absorbed text = (refl, take_all (length text % 64) (drop (length text / 64 * 64) text) (omega (arith, left_length text)))

is_at_end : (text value left : List ℕ) (count : ℕ) → count ≡ length text % 2 ^ 64 → IsAbsorbed initial_hash_256 value left text
    → length left ≡ length text % 64 → the_summed count value left ≡ at_end text
is_at_end text value left count counted is sized =
    same_summed count (length text % 2 ^ 64) value (at_end text).value left (at_end text).left counted is.0
    (sym (take_all (length text % 64) left (omega (arith, sized))) ∙ is.1)

byte_more : (text : List ℕ) (byte : ℕ) → and_byte (at_end text) byte ≡ at_end (text ++ byte ∷ [])
byte_more text byte = by (length (at_end text).left == 63) refl
  where
    next : ℕ
    next = (length text % 2 ^ 64 + 1) % 2 ^ 64

    counted : next ≡ length (text ++ byte ∷ []) % 2 ^ 64
    counted = omega (arith, length-append text (byte ∷ []))

    sized : length (at_end text).left ≡ length text % 64
    sized = left_length text

    same : take (length text % 64) (at_end text).left ≡ (at_end text).left
    same = take_all (length text % 64) (at_end text).left (omega (arith, sized))

    by : (t : Bool) → (length (at_end text).left == 63) ≡ t
        → (if t then the_summed next (compress (at_end text).value ((at_end text).left ++ byte ∷ [])) []
        else the_summed next (at_end text).value ((at_end text).left ++ byte ∷ [])) ≡ at_end (text ++ byte ∷ [])
    by true is =
        let full = eqb-true (length (at_end text).left) 63 is in
        is_at_end (text ++ byte ∷ []) _ [] next counted
        (IsAbsorbed_fill initial_hash_256 (at_end text).value (at_end text).left [] text (byte ∷ []) ((at_end text).left ++ byte ∷ [])
        (absorbed text) (omega (arith, sized, full)) (ap (λ (l : List ℕ). l ++ byte ∷ []) (sym same)))
        (omega (arith, sized, full, length-append text (byte ∷ [])))
    by false is =
        let few : length text % 64 + 1 < 64 = few_left (length (at_end text).left) (length text % 64) sized is (omega arith) in
        let grown = length-append (at_end text).left (byte ∷ []) in
        is_at_end (text ++ byte ∷ []) _ ((at_end text).left ++ byte ∷ []) next counted
        (IsAbsorbed_short initial_hash_256 (at_end text).value (at_end text).left ((at_end text).left ++ byte ∷ []) text (byte ∷ [])
        (absorbed text) few
        (take_all (length text % 64 + 1) ((at_end text).left ++ byte ∷ []) (omega (arith, sized, grown))
        ∙ ap (λ (l : List ℕ). l ++ byte ∷ []) (sym same)))
        (omega (arith, sized, few, grown, length-append text (byte ∷ [])))

bytes_more : (text bytes : List ℕ) → and_bytes (at_end text) bytes ≡ at_end (text ++ bytes)
unfolding and_bytes
bytes_more text [] = ap at_end (sym (append-nil text))
bytes_more text (byte ∷ bytes) =
    ap (λ (s : Summed). and_bytes s bytes) (byte_more text byte)
    ∙ bytes_more (text ++ byte ∷ []) bytes
    ∙ ap at_end (append_assoc text (byte ∷ []) bytes)

-- bytes may be summed part by part
pub parts_summed : (summed : Summed) (one other : List ℕ) → and_bytes (and_bytes summed one) other ≡ and_bytes summed (one ++ other)
unfolding and_bytes
parts_summed summed [] other = refl
parts_summed summed (byte ∷ bytes) other = parts_summed (and_byte summed byte) bytes other

at_start : nothing_summed ≡ at_end []
unfolding hash_after
at_start = refl

text_summed : (text : List ℕ) → and_bytes nothing_summed text ≡ at_end text
text_summed text = ap (λ (s : Summed). and_bytes s text) at_start ∙ bytes_more [] text

same_padding : (n : ℕ) → padding (n % 2 ^ 64) ≡ padding n
same_padding n =
    ap (λ (k : ℕ). 0x80 ∷ replicate ((119 - k) % 64) 0 ++ to_be_bytes w64 ((n % 2 ^ 64) * 8 % 2 ^ 64)) (omega arith)
    ∙ ap (λ (k : ℕ). 0x80 ∷ replicate ((119 - n % 64) % 64) 0 ++ to_be_bytes w64 k) (omega arith)

sum_at_end : (text : List ℕ) → sum_by (at_end text) ≡ sum_of text
unfolding sha256
sum_at_end text =
    ap (λ (s : Summed). sum_record (digest_bytes s.value 8))
    (bytes_more text (padding (length text % 2 ^ 64)) ∙ ap (λ (p : List ℕ). at_end (text ++ p)) (same_padding (length text)))

-- a text that was summed byte by byte has its SHA-256
pub whole_sum : (text : List ℕ) → sum_by (and_bytes nothing_summed text) ≡ sum_of text
whole_sum text = ap sum_by (text_summed text) ∙ sum_at_end text

-- ---- a hasher
pub hasher_at : (hasher : Sha256) (text : List ℕ) → Holds256 hasher text → summed_of hasher ≡ and_bytes nothing_summed text
hasher_at hasher text holds =
    let count = Holds_total initial_hash_256 hasher.core text holds in
    let is = Holds-IsAbsorbed initial_hash_256 hasher.core text holds in
    let same : hasher.core.total % 64 ≡ length text % 64 = omega (arith, count) in
    same_summed hasher.core.total (length text % 2 ^ 64) hasher.core.h _ (take (hasher.core.total % 64) hasher.core.buffer) _ count is.0
    (ap (λ (n : ℕ). take n hasher.core.buffer) same ∙ is.1)
    ∙ sym (text_summed text)

pub nothing_more : (summed : Summed) → and_bytes summed [] ≡ summed
unfolding and_bytes
nothing_more summed = refl
