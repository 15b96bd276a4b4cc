-- What a settled hall shows.
use Rattle.std.specs.Prelude.{ℕ, ◌≡◌, ◌+◌}
use Rattle.cml_board.specs.{entries_in, rings_in}
use Rattle.cml_board.specs.Shown.{Shown}

-- the board; how many answers were counted for seats; and how many entries are of lanes and feeds
pub record Final (M : Type 0) : Type 0 where
  pub board : Shown M
  pub seats : ℕ
  pub rings : ℕ

module _ {M : Type 0} where
  -- together they are all entries
  pub record IsSettled (board : Shown M) (seats rings : ℕ) : Type 0 where
    pub total : seats + rings ≡ entries_in board.history
    pub own : rings ≡ rings_in board.history
