-- Numbers as words of a line, and the laws of that.
use Rattle.std.specs.Prelude.{ℕ, ◌^◌, Bool, nat_lt, if◌then◌else◌, List, Option, Some, None}
use Rattle.std.specs.Str.Parse.{digits_value}
use Rattle.cml_grammar.specs.{is_number}

-- a number below 2 ^ 64
abbrev pub is_small : ℕ → Bool
is_small n = nat_lt n (2 ^ 64)

-- the number that a word is, if it is one
abbrev pub number_of : List ℕ → Option ℕ
number_of word = if is_number word then Some (digits_value 10 word) else None
