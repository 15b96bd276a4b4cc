-- How many elements of a list pass a test.
use Rattle.std.specs.Prelude.{ℕ, ◌+◌, Bool, List, [], ◌∷◌, if◌then◌else◌}

abbrev pub one_if : Bool → ℕ
one_if test = if test then 1 else 0

abbrev pub how_many : {X : Type 0} → (X → Bool) → List X → ℕ
how_many test [] = 0
how_many test (x ∷ xs) = one_if (test x) + how_many test xs
