-- What the ends that threads have of lanes and feeds show of themselves, and what is left of an end that has finished.
use Rattle.std.specs.Prelude.{ℕ, List}
use Rattle.cml_board.specs.{Name}
use Rattle.cml_lanes.specs.Ring.{Ring}

-- a lane: its ring, its number on the floor, how many messages the ring has room for, and all that it accepted, in order
pub record LaneShown (M : Type 0) : Type 0 where
  pub ring : Ring
  pub number : ℕ
  pub capacity : ℕ
  pub accepted : List M

-- a feed: its ring, its number on the floor, its port, how many messages the ring has room for, and all that was taken from it, in order
pub record FeedShown (M : Type 0) : Type 0 where
  pub ring : Ring
  pub number : ℕ
  pub port : Name
  pub capacity : ℕ
  pub taken : List M

-- a lane or a feed that has finished: its ring, its number, and all that was put into the ring, in order
pub record Ended (M : Type 0) : Type 0 where
  pub ring : Ring
  pub number : ℕ
  pub sent : List M
