-- What holds of each log that was made empty and changed by its own calls alone.
use Rattle.std.specs.Prelude.{◌≡◌, ℕ, ◌*◌, ◌/◌, ◌≤◌, List, length, drop, Some}
use Rattle.cml_log.specs.Log.{Log, least, next_of, place_at, chunk_start}

module _ {T : Type 0} where
  -- nothing is kept before the least place's chunk, and no cursor is past the end
  pub record IsTidy (chunk : ℕ) (l : Log T) : Type 0 where
    pub first : l.first ≡ chunk_start chunk l
    pub within : (key place : ℕ) → place_at l key ≡ Some place → place ≤ next_of l

  -- the log is tidy, and these are all the items that were ever pushed
  pub record Holds (chunk : ℕ) (l : Log T) (stream : List T) : Type 0 where
    pub first : l.first ≡ chunk * (least (length stream) l.places / chunk)
    pub kept : l.kept ≡ drop l.first stream
    pub within : (key place : ℕ) → place_at l key ≡ Some place → place ≤ length stream
