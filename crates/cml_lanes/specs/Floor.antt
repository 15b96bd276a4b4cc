-- What a floor shows of itself, and what always holds of it.
use Rattle.std.specs.Prelude.{ℕ, ◌≡◌, ◌≤◌, Bool, true, false, List, [], ◌++◌, length, slice_get, slice_set, Option, Some, None}
use Rattle.cml_board.specs.{Entry, Refusal}
use Rattle.cml_board.specs.Shown.{Shown}
use Rattle.cml_board.specs.declared.outcome.Refusal.TheVariants.{NoSuch}
use Rattle.cml_lanes.specs.Ends.{Ended}
use Rattle.cml_lanes.specs.Sides.{LaneSide, FeedSide}
use Rattle.cml_lanes.specs.Laned.{laned}
use Rattle.cml_lanes.specs.Fed.{fed}
use Rattle.cml_lanes.specs.Moving.{KeepsLane}
use Rattle.cml_lanes.specs.Pumping.{KeepsFeed}

-- the board, and by its number the floor's end of each lane and of each feed that was opened; none of one that is no
-- longer open
pub record FloorShown (M : Type 0) : Type 0 where
  pub board : Shown M
  pub lanes : List (Option (LaneSide M))
  pub feeds : List (Option (FeedSide M))

-- something is in this place
abbrev pub is_taken : {X : Type 0} → Option (Option X) → Bool
is_taken None = false
is_taken (Some None) = false
is_taken (Some (Some side)) = true

-- a call is refused `NoSuch` for the first reason alone, and in each other way for the second
abbrev pub NoSuchOr : Type 0 → (Refusal → Type 0) → Refusal → Type 0
NoSuchOr none why NoSuch = none
NoSuchOr none why refusal = why refusal

-- it stays open, as it is then
abbrev pub stays : {Side : Type 0} → Side → Option Side
stays side = Some side

-- it is no longer open
abbrev pub goes : {Side : Type 0} → Side → Option Side
goes side = None

-- this is done to the lane or the feed in one place, which then stays or goes; and nothing to another
pub record OnPlace {Side : Type 0} (left : Side → Option Side) (number : ℕ) (old new : List (Option Side))
    (Does : Side → Side → Type 0) : Type 0 where
  pub from : Side
  pub to : Side
  pub opened : slice_get old number ≡ Some (Some from)
  pub places : new ≡ slice_set old number (left to)
  pub does : Does from to

module _ {M : Type 0} where
  -- the lane of this number is open
  abbrev pub is_open_lane : FloorShown M → ℕ → Bool
  is_open_lane floor number = is_taken (slice_get floor.lanes number)

  -- the feed of this number is open
  abbrev pub is_open_feed : FloorShown M → ℕ → Bool
  is_open_feed floor number = is_taken (slice_get floor.feeds number)

  -- the journal has of each open lane what was taken out of its ring, and of a number that was never given nothing
  pub record KeepsLanes (history : List (Entry M)) (lanes : List (Option (LaneSide M))) : Type 0 where
    pub lane : (number : ℕ) (side : LaneSide M) → slice_get lanes number ≡ Some (Some side) → KeepsLane history number side
    pub no_lane : (number : ℕ) → length lanes ≤ number → laned history number ≡ []

  -- of each open feed the journal has what was put into its ring, which is all that its port received, and of a number that
  -- was never given nothing; no two open feeds have one port
  pub record KeepsFeeds (history : List (Entry M)) (feeds : List (Option (FeedSide M))) : Type 0 where
    pub feed : (number : ℕ) (side : FeedSide M) → slice_get feeds number ≡ Some (Some side) → KeepsFeed history number side
    pub no_feed : (number : ℕ) → length feeds ≤ number → fed history number ≡ []
    pub apart : (one two : ℕ) (a b : FeedSide M) → slice_get feeds one ≡ Some (Some a) → slice_get feeds two ≡ Some (Some b)
        → a.port ≡ b.port → one ≡ two

  -- no open lane has the number, and nothing is changed
  abbrev pub FindsNoLane : ℕ → FloorShown M → FloorShown M → Type 0
  FindsNoLane number old new = (is_open_lane old number ≡ false) × (new ≡ old)

  -- no open feed has the number, and nothing is changed
  abbrev pub FindsNoFeed : ℕ → FloorShown M → FloorShown M → Type 0
  FindsNoFeed number old new = (is_open_feed old number ≡ false) × (new ≡ old)

  -- where the lane of this number is open now, it was open before, and is on the same ring
  abbrev pub SameRing : ℕ → FloorShown M → FloorShown M → Type 0
  SameRing number old new = (side : LaneSide M) → slice_get new.lanes number ≡ Some (Some side)
      → (from : LaneSide M) × (slice_get old.lanes number ≡ Some (Some from)) × (side.ring ≡ from.ring)

  -- the same of the feed of this number
  abbrev pub SameFeedRing : ℕ → FloorShown M → FloorShown M → Type 0
  SameFeedRing number old new = (side : FeedSide M) → slice_get new.feeds number ≡ Some (Some side)
      → (from : FeedSide M) × (slice_get old.feeds number ≡ Some (Some from)) × (side.ring ≡ from.ring)

  -- no lane and no feed was opened, and no open one has another ring
  abbrev pub KeepsRings : FloorShown M → FloorShown M → Type 0
  KeepsRings old new = ((number : ℕ) → SameRing number old new) × ((number : ℕ) → SameFeedRing number old new)

  -- where the lane of this number is open, the end is of its ring
  abbrev pub IsOfRing : ℕ → FloorShown M → Ended M → Type 0
  IsOfRing number floor end = (side : LaneSide M) → slice_get floor.lanes number ≡ Some (Some side) → end.ring ≡ side.ring

  -- where the end's own lane is open, it is of its ring
  abbrev pub IsOfItsRing : FloorShown M → Ended M → Type 0
  IsOfItsRing floor end = IsOfRing end.number floor end

  -- what the journal has of an open lane, followed by what is seen in its ring, is all that was sent on it
  abbrev pub GivesAll : ℕ → FloorShown M → Ended M → Type 0
  GivesAll number floor end = (side : LaneSide M) → slice_get floor.lanes number ≡ Some (Some side)
      → laned floor.board.history number ++ side.seen ≡ end.sent

  -- this is done to an open lane, which then stays or goes; and nothing to another, nor to a feed
  pub record OnLane (left : LaneSide M → Option (LaneSide M)) (number : ℕ) (old new : FloorShown M)
      (Does : LaneSide M → LaneSide M → Type 0) : Type 0 where
    pub place : OnPlace left number old.lanes new.lanes Does
    pub feeds : new.feeds ≡ old.feeds

  -- this is done to an open feed, which then stays or goes; and nothing to another, nor to a lane
  pub record OnFeed (left : FeedSide M → Option (FeedSide M)) (number : ℕ) (old new : FloorShown M)
      (Does : FeedSide M → FeedSide M → Type 0) : Type 0 where
    pub place : OnPlace left number old.feeds new.feeds Does
    pub lanes : new.lanes ≡ old.lanes
