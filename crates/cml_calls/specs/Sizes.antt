-- How many bytes are too many.
use Rattle.std.specs.Prelude.{ℕ, ◌≤◌, ◌^◌, List, length}

-- more than 2^32 - 1 bytes
abbrev pub IsTooLong : List ℕ → Type 0
IsTooLong bytes = 2 ^ 32 ≤ length bytes
