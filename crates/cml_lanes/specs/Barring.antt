-- Which calls the ports of open feeds bar.
use Rattle.std.specs.Prelude.{ℕ, ◌==◌, Bool, false, List, Option, Some, None}
use Rattle.std.specs.List.{list_any}
use Rattle.cml_board.specs.{Call}
use Rattle.cml_board.specs.declared.call.Call.TheVariants.{ClosePort, Recv, Poll}
use Rattle.cml_lanes.specs.Sides.{FeedSide}

module _ {M : Type 0} where
  -- the feed of a slot has this port
  abbrev pub has_port : ℕ → Option (FeedSide M) → Bool
  has_port object None = false
  has_port object (Some side) = side.port.0 == object

  -- an open feed has it
  abbrev pub is_feeds_port : List (Option (FeedSide M)) → ℕ → Bool
  is_feeds_port feeds object = list_any (has_port object) feeds

  -- only an open feed receives from its port, and no call closes that port
  abbrev pub is_barred : List (Option (FeedSide M)) → Call M → Bool
  is_barred feeds (Recv port) = is_feeds_port feeds port.0
  is_barred feeds (Poll port) = is_feeds_port feeds port.0
  is_barred feeds (ClosePort port) = is_feeds_port feeds port.0
  is_barred feeds call = false
