-- What a call on lanes or feeds has done to a floor, whatever it tells.
use Rattle.std.specs.Prelude.{ℕ, ◌≡◌, [], ◌∷◌, ◌++◌, slice_set, Option, Some, None}
use Rattle.cml_board.specs.{Name, IsAsBefore}
use Rattle.cml_lanes.specs.Sides.{LaneSide, FeedSide}
use Rattle.cml_lanes.specs.Moving.{DrainsRing}
use Rattle.cml_lanes.specs.Pumping.{PumpsRing}
use Rattle.cml_lanes.specs.Floor.{FloorShown, stays, OnLane, OnFeed}
use Rattle.cml_lanes.specs.Feeds.{MakesPort}

module _ {M : Type 0} where
  -- no lane and no feed was touched; or one lane was drained, and then stayed or went, or it went, or one was opened; or one feed
  -- was pumped, or it went, or one was opened
  pub data Deed (old new : FloorShown M) : Type 0 where
    as_it_was : IsAsBefore old.board new.board → new.lanes ≡ old.lanes → new.feeds ≡ old.feeds → Deed old new
    lane_drained : (left : LaneSide M → Option (LaneSide M)) (number count : ℕ)
        → OnLane left number old new (DrainsRing number count old.board new.board) → Deed old new
    lane_gone : (number : ℕ) → new ≡ record old { lanes = slice_set old.lanes number None } → Deed old new
    lane_opened : (side : LaneSide M) → new.board ≡ old.board → new.lanes ≡ old.lanes ++ Some side ∷ [] → new.feeds ≡ old.feeds
        → Deed old new
    feed_pumped : (number count : ℕ) → OnFeed stays number old new (PumpsRing number count old.board new.board) → Deed old new
    feed_gone : (number : ℕ) → new ≡ record old { feeds = slice_set old.feeds number None } → Deed old new
    feed_opened : (number : ℕ) (channel port : Name) (side : FeedSide M) → MakesPort number old.board new.board channel port
        → new.lanes ≡ old.lanes → new.feeds ≡ old.feeds ++ Some side ∷ [] → Deed old new
