-- Text is written into a buffer.
use Rattle.std.proofs.Common.{◌≡◌, ℕ, ◌≤◌, ◌<◌, ◌+◌, ◌*◌, ◌/◌, ◌^◌, true, false, Bool, List, [], ◌∷◌, ◌++◌, length, take, drop, ap, refl, sym, append-nil, ◌∙◌, arith}
use Rattle.std.specs.Fmt.{decimal}
use Rattle.std.specs.List.{flat_map, list_all}
use Rattle.std.proofs.lemmas.Bool.{and_parts}
use Rattle.std.proofs.lemmas.Fmt.{length-decimal-le}
use Rattle.std.proofs.lemmas.List.{length-append, length-take-le, append_assoc, take-append-drop}
use Rattle.itoa.proofs.Decimal.{length_pair}
use Rattle.cml_board.specs.{Call, row_of}
use Rattle.cml_board.specs.declared.call.Call.TheVariants as call
use Rattle.cml_journal.specs.{byte_text, is_plain}
use Rattle.cml_c.specs.{Puts}
use Rattle.cml_c.proofs.AddingLemmas.{added, within_buffer}

-- a text, and one after it
pub puts_both : {one two old between new : List ℕ} {at middle end : ℕ} → Puts one at old between middle → Puts two middle between new end
    → Puts (one ++ two) at old new end
puts_both {one} {two} {old} {between} {new} {at} {middle} {end} first second =
    let inside : at ≤ length old = omega (arith, first.long, first.within) in
    let long : middle ≡ length (take at old ++ one) = first.long ∙ ap (λ (n : ℕ). n + length one) (sym (length-take-le at old inside))
    ∙ sym (length-append (take at old) one) in
    let both : length (one ++ two) ≡ length one + length two = length-append one two in
    record {
      long = omega (arith, first.long, second.long, both);
      within = within_buffer (take at old ++ one) old between middle end long first.within first.written second.within;
      written = added (take at old ++ one) two old between new middle end long second.long first.written second.written
          ∙ ap (λ (t : List ℕ). t ++ drop end old) (append_assoc (take at old) one two);
    }

-- a byte, and a text after it
pub puts_byte : {b : ℕ} {two old between new : List ℕ} {at middle end : ℕ} → Puts (b ∷ []) at old between middle
    → Puts two middle between new end → Puts (b ∷ two) at old new end
puts_byte first second = puts_both first second

-- no text
pub puts_nothing : {at : ℕ} {old : List ℕ} → at ≤ length old → Puts [] at old old at
puts_nothing {at} {old} inside = record {
  long = omega arith;
  within = inside;
  written = sym (ap (λ (t : List ℕ). t ++ drop at old) (append-nil (take at old)) ∙ take-append-drop at old);
}

-- a number of 64 bits has at most twenty digits
pub at_most_twenty : (n : ℕ) → n < 2 ^ 64 → length (decimal n) ≤ 20
at_most_twenty n small =
    let wide : n < 10 ^ 20 = omega arith in
    length-decimal-le 20 n (omega arith) wide small

-- four digits more
pub four_more : (n : ℕ) → 10000 ≤ n → n < 2 ^ 64 → length (decimal n) ≡ 4 + length (decimal (n / 10000))
four_more n many small =
    let one : length (decimal n) ≡ length (decimal (n / 100)) + 2 = length_pair n (omega (arith, many)) small in
    let two : length (decimal (n / 100)) ≡ length (decimal (n / 100 / 100)) + 2 = length_pair (n / 100) (omega (arith, many)) (omega (arith, small)) in
    let same : n / 100 / 100 ≡ n / 10000 = omega arith in
    let last : length (decimal (n / 100 / 100)) ≡ length (decimal (n / 10000)) = ap (λ (m : ℕ). length (decimal m)) same in
    omega (arith, one, two, last)

one_as_it_is : (b : ℕ) → is_plain b ≡ true → byte_text b ≡ b ∷ []
one_as_it_is b e = rw e

-- bytes of which none is escaped
pub plain_as_it_is : (bytes : List ℕ) → list_all is_plain bytes ≡ true → flat_map byte_text bytes ≡ bytes
plain_as_it_is [] all = refl
plain_as_it_is (b ∷ bs) all =
    ap (λ t. t ++ flat_map byte_text bs) (one_as_it_is b (and_parts _ _ all).0) ∙ ap (λ t. b ∷ t) (plain_as_it_is bs (and_parts _ _ all).1)

one_at_most : (b : ℕ) → length (byte_text b) ≤ 3
one_at_most b = by (is_plain b) refl
  where
    by : (t : Bool) → is_plain b ≡ t → length (byte_text b) ≤ 3
    by true e = rw e (omega arith)
    by false e = rw e (omega arith)

-- a byte takes three bytes at most
pub escaped_at_most : (bytes : List ℕ) → length (flat_map byte_text bytes) ≤ length bytes * 3
escaped_at_most [] = omega arith
escaped_at_most (b ∷ bs) =
    let both : length (byte_text b ++ flat_map byte_text bs) ≡ length (byte_text b) + length (flat_map byte_text bs)
    = length-append (byte_text b) (flat_map byte_text bs) in
    omega (arith, both, one_at_most b, escaped_at_most bs)

-- the longest word is `multicast`
pub word_at_most : {M : Type 0} (made : Call M) → length (row_of made).word ≤ 9
word_at_most call.NewMailbox = omega arith
word_at_most call.NewChannel = omega arith
word_at_most (call.NewPort _) = omega arith
word_at_most (call.CopyPort _) = omega arith
word_at_most (call.ClosePort _) = omega arith
word_at_most call.NewIVar = omega arith
word_at_most call.NewMVar = omega arith
word_at_most (call.MVarInit _) = omega arith
word_at_most (call.Send _ _) = omega arith
word_at_most (call.Cast _ _) = omega arith
word_at_most (call.Recv _) = omega arith
word_at_most (call.Poll _) = omega arith
word_at_most (call.Put _ _) = omega arith
word_at_most (call.Get _) = omega arith
word_at_most (call.GetPoll _) = omega arith
word_at_most (call.Take _) = omega arith
word_at_most (call.TakePoll _) = omega arith
word_at_most (call.Swap _ _) = omega arith
