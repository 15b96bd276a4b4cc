-- What a pending journal shows, and how it grows.
use Rattle.std.specs.Prelude.{◌≡◌, List, ◌++◌, take, length}
use Rattle.cml_board.specs.{Entry}

-- the entries that the sink took, and those that it has still to take, each list oldest first
pub record PendingView (M : Type 0) : Type 0 where
  pub taken : List (Entry M)
  pub pending : List (Entry M)

module _ {M : Type 0} where
  -- all entries that it was given, oldest first
  abbrev pub all_of : PendingView M → List (Entry M)
  all_of kept = kept.taken ++ kept.pending

  -- it was given some more, and still has all before them
  abbrev pub Grows : PendingView M → PendingView M → Type 0
  Grows old new = (later : List (Entry M)) × (all_of new ≡ all_of old ++ later)

  -- the first that it was given are these
  abbrev pub BeginsWith : List (Entry M) → PendingView M → Type 0
  BeginsWith start kept = take (length start) (all_of kept) ≡ start
