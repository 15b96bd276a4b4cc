-- Lines and names as texts that can be kept.
use Rattle.std.proofs.Common.{◌≡◌, ℕ, ◌<◌, ◌≤◌, ◌^◌, true, false, List, [], ◌∷◌, length, String, arith}
use Rattle.std.specs.Global.{Global}
use Rattle.std.specs.Str.{IsUtf8}
use Rattle.std.proofs.StringFromBytes.{spelled}
use Rattle.std.proofs.lemmas.Bool.{and_parts, leb-true}
use Rattle.std.proofs.lemmas.Bool.Decides.{nat_tests}
use Rattle.std.proofs.lemmas.List.Elements.{All-cons, All-weaker}
use Rattle.std.proofs.lemmas.List.Sums.{AllPass-from_list_all}
use Rattle.std.proofs.lemmas.Str.{IsUtf8-from_ascii}
use Rattle.std.proofs.lemmas.Str.Ascii.{IsAscii-from_all}
use Rattle.cml_grammar.specs.{is_letter, is_name_byte, is_name}

-- a string of these bytes
abbrev pub string_from : (bytes : List ℕ) → IsUtf8 bytes → length bytes < 2 ^ 63 → String Global
string_from bytes utf8 small = spelled (record { memory = record { seal = tt } }) bytes ∣ utf8 ∣₁ small

letter_low : (b : ℕ) → is_letter b ≡ true → b < 128
letter_low b h = grind (arith, nat_tests)

name_byte_low : (b : ℕ) → is_name_byte b ≡ true → b < 128
name_byte_low b h = grind (arith, nat_tests)

-- a name is text, and short
pub name_text : (word : List ℕ) → is_name word ≡ true → IsUtf8 word
name_text [] h = absurd (let e : false ≡ true = h in cc)
name_text (b ∷ bs) h =
    let whole = and_parts _ _ h in
    let front = and_parts _ _ whole.0 in
    let first = and_parts _ _ front.0 in
    IsUtf8-from_ascii (b ∷ bs) (IsAscii-from_all (b ∷ bs) (All-cons (λ x. x < 128) b bs (letter_low b first.0)
    (All-weaker (λ x. is_name_byte x ≡ true) (λ x. x < 128) name_byte_low bs (AllPass-from_list_all is_name_byte bs first.1))))

pub name_short : (word : List ℕ) → is_name word ≡ true → length word < 2 ^ 63
name_short [] h = absurd (let e : false ≡ true = h in cc)
name_short (b ∷ bs) h =
    let whole = and_parts _ _ h in
    let front = and_parts _ _ whole.0 in
    within b bs (leb-true (length bs) 31 front.1)
  where
    within : (c : ℕ) (cs : List ℕ) → length cs ≤ 31 → length (c ∷ cs) < 2 ^ 63
    within c cs le = omega arith
