-- What the bytes of a line say of its text.
use Rattle.std.proofs.Common.{◌≡◌, ℕ, ◌<◌, nat_lt, false, List, [], ◌∷◌, All, arith}
use Rattle.std.specs.List.{list_any}
use Rattle.std.specs.Str.{IsUtf8}
use Rattle.std.proofs.lemmas.Bool.{or_parts, ltb-false}
use Rattle.std.proofs.lemmas.List.Elements.{All-nil, All-cons}
use Rattle.std.proofs.lemmas.Str.{IsUtf8-from_ascii}
use Rattle.std.proofs.lemmas.Str.Ascii.{IsAscii-from_all}
use Rattle.cml_grammar.specs.{is_bad_byte}

low_bytes : (line : List ℕ) → list_any is_bad_byte line ≡ false → All (λ b. b < 128) line
low_bytes [] h = All-nil (λ b. b < 128)
low_bytes (b ∷ bs) h =
    let parts = or_parts (is_bad_byte b) (list_any is_bad_byte bs) h in
    All-cons (λ x. x < 128) b bs (omega (arith, ltb-false 126 b (or_parts (nat_lt b 32) (nat_lt 126 b) parts.0).1)) (low_bytes bs parts.1)

-- a line without a bad byte is text
pub text_from_bytes : (line : List ℕ) → list_any is_bad_byte line ≡ false → IsUtf8 line
text_from_bytes line h = IsUtf8-from_ascii line (IsAscii-from_all line (low_bytes line h))
