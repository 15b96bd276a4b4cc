-- The inside of `LaneSlots`, of `FeedSlots`, and of what drains and pumps one slot of them: no contract of a floor cites it.
use Rattle.std.specs.Prelude.{ℕ, ◌≡◌, Bool, List, ◌++◌, length, replicate, Option, Some, None, is_some, count_by, nat_eq}
use Rattle.std.specs.List.{list_any}
use Rattle.cml_board.specs.{Entry, Refusal}
use Rattle.cml_board.specs.Shown.{Shown}
use Rattle.cml_lanes.specs.Ends.{Ended}
use Rattle.cml_lanes.specs.Sides.{LaneSide, FeedSide}
use Rattle.cml_lanes.specs.Moving.{KeepsLane, Empties, IsHeld}
use Rattle.cml_lanes.specs.Pumping.{KeepsFeed, Fills, IsStarved}
use Rattle.cml_lanes.specs.Barring.{is_feeds_port}

-- this many places in which nothing is open, and then those of these slots
abbrev pub behind : {Side : Type 0} → ℕ → List (Option Side) → List (Option Side)
behind closed slots = replicate closed None ++ slots

-- the lane or the feed of a slot stays open, and this is done to it
pub record OnSlot {Side : Type 0} (old new : Option Side) (Does : Side → Side → Type 0) : Type 0 where
  pub from : Side
  pub to : Side
  pub opened : old ≡ Some from
  pub stays : new ≡ Some to
  pub does : Does from to

-- by number the floor's end of each feed, of open ones alone; and for how many more there is memory
pub record SlotsShown (M : Type 0) : Type 0 where
  pub feeds : List (Option (FeedSide M))
  pub room : ℕ

module _ {M : Type 0} where
  -- a slot with an open lane
  pub record HasLane (history : List (Entry M)) (number : ℕ) (slot : Option (LaneSide M)) : Type 0 where
    pub side : LaneSide M
    pub opened : slot ≡ Some side
    pub keeps : KeepsLane history number side

  -- all that was seen in a lane's ring went out of it, this many messages, or this many went until one was refused
  abbrev pub DrainsUntil : ℕ → Bool → ℕ → ℕ → Option Refusal → Shown M → Shown M → LaneSide M → LaneSide M → Type 0
  DrainsUntil chunk sure number count None old new from to = Empties number count old new from to
  DrainsUntil chunk sure number count (Some refusal) old new from to = IsHeld chunk sure number count old new from to refusal

  -- what was taken out of a lane's ring and what is seen there are all that was sent
  abbrev pub LeavesAll : Ended M → LaneSide M → Type 0
  LeavesAll end side = side.received ++ side.seen ≡ end.sent

  -- this many messages were pumped until there was no slot or no message, or until one was refused
  abbrev pub PumpsUntil : ℕ → Bool → ℕ → ℕ → Option Refusal → Shown M → Shown M → FeedSide M → FeedSide M → Type 0
  PumpsUntil chunk sure number count None old new from to = Fills number count old new from to
  PumpsUntil chunk sure number count (Some refusal) old new from to = IsStarved chunk sure number count old new from to refusal

  -- a slot with an open feed
  pub record HasFeed (history : List (Entry M)) (number : ℕ) (slot : Option (FeedSide M)) : Type 0 where
    pub side : FeedSide M
    pub opened : slot ≡ Some side
    pub keeps : KeepsFeed history number side

  -- a slot's feed is ended: all that was put into its ring is what was pumped
  pub record EndsSlot (number : ℕ) (old : Option (FeedSide M)) (end : Ended M) : Type 0 where
    pub side : FeedSide M
    pub opened : old ≡ Some side
    pub ends : end ≡ record { ring = side.ring; number = number; sent = side.pushed }

  -- just the ports of open feeds, each once
  pub record HasPorts (ports : List ℕ) (feeds : List (Option (FeedSide M))) : Type 0 where
    pub each : (object : ℕ) → list_any (nat_eq object) ports ≡ is_feeds_port feeds object
    pub count : length ports ≡ count_by is_some feeds
