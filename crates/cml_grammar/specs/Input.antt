-- What is read of a reader.
use Rattle.std.specs.Prelude.{ℕ, ◌≤◌, ◌⊎◌, List, Option, length}
use Rattle.std.specs.Io.KnownBytes.{Consumes, IsAtEnd}

-- these were the reader's next bytes, and no byte is left; or there are at least this many
abbrev pub IsReadUpTo : ℕ → Option (List ℕ) → Option (List ℕ) → List ℕ → Type 0
IsReadUpTo most old new bytes = Consumes old new bytes × (IsAtEnd new ⊎ (most ≤ length bytes))
