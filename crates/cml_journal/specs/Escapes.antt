-- Bytes as words of a line.
use Rattle.std.specs.Prelude.{ℕ, ◌+◌, ◌-◌, ◌*◌, ◌/◌, ◌%◌, ◌^◌, ◌==◌, Bool, true, not, ◌&&◌, nat_lt, nat_le, if◌then◌else◌}
use Rattle.std.specs.Prelude.{List, [], ◌∷◌, length, Option, Some, None}
use Rattle.std.specs.Fmt.{digit_glyph}
use Rattle.std.specs.List.{flat_map, list_all}
use Rattle.std.specs.Option.{option_map, option_and_then}
use Rattle.cml_calls.specs.{is_text_byte}

-- a byte that is written as it is: printed, no space and no `%`
abbrev pub is_plain : ℕ → Bool
is_plain b = is_text_byte b && not (b == 37)

-- a byte as it is, or `%` and two hex digits
abbrev pub byte_text : ℕ → List ℕ
byte_text b = if is_plain b then b ∷ [] else 37 ∷ digit_glyph true (b / 16) ∷ digit_glyph true (b % 16) ∷ []

-- a message: `=` and its bytes
abbrev pub bytes_text : List ℕ → List ℕ
bytes_text bytes = 61 ∷ flat_map byte_text bytes

abbrev pub are_bytes : List ℕ → Bool
are_bytes bytes = list_all (λ b. nat_lt b (2 ^ 8)) bytes

-- a message has fewer than 2 ^ 32 bytes
abbrev pub is_message : List ℕ → Bool
is_message bytes = nat_lt (length bytes) (2 ^ 32) && are_bytes bytes

-- the value of a capital hex digit
abbrev pub digit_in : ℕ → Option ℕ
digit_in b = if nat_le 48 b && nat_le b 57 then Some (b - 48) else (if nat_le 65 b && nat_le b 70 then Some (b - 55) else None)

-- the byte that two hex digits mean, unless it is written as it is
abbrev pub unless_plain : ℕ → Option ℕ
unless_plain b = if is_plain b then None else Some b

abbrev pub escaped : ℕ → ℕ → Option ℕ
escaped high low = option_and_then (λ h. option_and_then (λ l. unless_plain (h * 16 + l)) (digit_in low)) (digit_in high)

-- the first byte of a text that begins with two hex digits, and what is after them
abbrev pub escape_at : List ℕ → Option (ℕ × List ℕ)
escape_at [] = None
escape_at (high ∷ []) = None
escape_at (high ∷ low ∷ bs) = option_map (λ b. (b, bs)) (escaped high low)

abbrev pub byte_at : List ℕ → Option (ℕ × List ℕ)
byte_at [] = None
byte_at (b ∷ bs) = if b == 37 then escape_at bs else (if is_plain b then Some (b, bs) else None)

-- a byte before others, if both are there
abbrev pub before : Option ℕ → Option (List ℕ) → Option (List ℕ)
before None bytes = None
before (Some b) bytes = option_map (λ rest. b ∷ rest) bytes

-- a byte that is written as it is
abbrev pub plain : ℕ → Option ℕ
plain b = if is_plain b then Some b else None

-- the bytes that a text means
unfoldable pub bytes_in : List ℕ → Option (List ℕ)
bytes_in [] = Some []
bytes_in (b ∷ []) = before (plain b) (Some [])
bytes_in (b ∷ c ∷ []) = before (plain b) (bytes_in (c ∷ []))
bytes_in (b ∷ c ∷ d ∷ bs) = if b == 37 then before (escaped c d) (bytes_in bs) else before (plain b) (bytes_in (c ∷ d ∷ bs))

abbrev pub if_short : List ℕ → Option (List ℕ)
if_short bytes = if nat_lt (length bytes) (2 ^ 32) then Some bytes else None

-- the message that a word is, if it is one
abbrev pub message_of_word : List ℕ → Option (List ℕ)
message_of_word [] = None
message_of_word (b ∷ bs) = if b == 61 then option_and_then if_short (bytes_in bs) else None
