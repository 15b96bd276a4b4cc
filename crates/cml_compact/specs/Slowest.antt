-- Which port of each channel is owed most.
use Rattle.std.specs.Prelude.{ℕ, ◌≡◌, ◌<◌, List, length, slice_get, Some}
use Rattle.cml_calls.specs.declared.kind.Kind.TheVariants.{Channel}
use Rattle.cml_board.specs.{Entry, Name, made, kind_of, owed_to}
use Rattle.cml_compact.specs.Stages.{longest_of}

-- the names of this many objects, in order
pub record AreNames (count : ℕ) (names : List Name) : Type 0 where
  pub all : length names ≡ count
  pub each : (k : ℕ) → k < count → slice_get names k ≡ Some (record { 0 = k })

module _ {M : Type 0} where
  -- for each channel one that is owed the longest of the lists of the first n objects
  pub record AreSlowest (history : List (Entry M)) (n : ℕ) (found : List Name) : Type 0 where
    pub all : length found ≡ length (made history)
    pub each : (source : ℕ) (name : Name) → kind_of history source ≡ Some Channel → slice_get found source ≡ Some name
        → owed_to history name.0 ≡ longest_of history source n
