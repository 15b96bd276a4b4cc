-- Sums as words.
use Rattle.std.specs.Prelude.{◌≡◌, ℕ, if◌then◌else◌, List, length, Option, Some, None, Result, Ok, Err}
use Rattle.std.specs.Str.{bytes_eq}
use Rattle.hex.specs.Hex.{encode_lower, decode_sized, IsBytes}
use Rattle.hex.specs.declared.error.FromHexError.{FromHexError}
use Rattle.cml_journal.specs.declared.sum.Sum.{Sum}

-- its bytes, each as two hex digits with small letters
abbrev pub sum_word : Sum → List ℕ
sum_word sum = encode_lower sum.0

-- a sum has 32 bytes
abbrev pub IsSum : Sum → Type 0
IsSum sum = (length sum.0 ≡ 32) × IsBytes sum.0

abbrev pub sum_by_bytes : List ℕ → Result (List ℕ) FromHexError → Option Sum
sum_by_bytes word (Ok bytes) = if bytes_eq word (encode_lower bytes) then Some (record { 0 = bytes }) else None
sum_by_bytes word (Err error) = None

-- the sum that a word is, if it is one
abbrev pub sum_in : List ℕ → Option Sum
sum_in word = sum_by_bytes word (decode_sized word 32)
