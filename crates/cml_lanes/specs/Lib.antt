pub mod Ring
pub mod Ends
pub mod Sides
pub mod Entered
pub mod Laned
pub mod Fed
pub mod Moving
pub mod Pumping
pub mod Floor
pub mod Lanes
pub mod Barring
pub mod Slots
pub mod Feeds
pub mod Deeds
pub mod Reserving
pub mod Cutting
pub mod Steps
-- the names that others import from here
pub use Ring.{ring_of}
pub use Ends.{Ended, FeedShown, LaneShown}
pub use Sides.{FeedSide, LaneSide, NoLane, way_call, way_kind}
pub use Entered.{Enters, with_entries}
pub use Laned.{is_lane, lane_entry, laned, moved_by, with_lane}
pub use Fed.{fed, feed_entry, is_feed, with_feed}
pub use Moving.{DrainsRing, Empties, IsLimit, KeepsLane, Looks, MovesOut, Stops}
pub use Pumping.{Balks, IsSated, KeepsFeed, LearnsFree, PumpsIn, PumpsRing}
pub use Floor.{FindsNoFeed, FindsNoLane, FloorShown, GivesAll, IsOfItsRing, IsOfRing, KeepsFeeds, KeepsLanes, KeepsRings, NoSuchOr, OnFeed}
pub use Floor.{OnLane, OnPlace, SameFeedRing, SameRing, goes, is_open_feed, is_open_lane, is_taken, stays}
pub use Lanes.{Abandons, Closes, ClosesCounted, CountRefused, Drains, Drops, DropsLane, EmptiesLane, HoldsUp, HoldsUpSome, OpensALane}
pub use Barring.{has_port, is_barred, is_feeds_port}
pub use Slots.{DrainsUntil, EndsSlot, HasFeed, HasLane, HasPorts, LeavesAll, OnSlot, PumpsUntil, SlotsShown, behind}
pub use Feeds.{EndsFeed, FillsFeed, MakesPort, OpensAFeed, Pumps, Starves}
pub use Deeds.{Deed, as_it_was, feed_gone, feed_opened, feed_pumped, lane_drained, lane_gone, lane_opened}
pub use Reserving.{FeedTakesEntryAlone, IsFloorAsBefore, LaneTakesEntryAlone, Reserves, TakesEntryAlone, added_since}
pub use Cutting.{CutsAFloor, CutsFloor, CutsOpenFloor, IsBusy, NotCut}
pub use Steps.{AbandonLane, AppliesSeat, Apply, AreCalled, CloseCounted, CloseLane, Cut, CutOpen, Drain, DropLane}
pub use Steps.{EndFeed, FloorCall, IsCalled, OpenFeed, OpenLane, Pump, Reserve, TakeJournal, TakeJournalOpen, keeps_journal, takes_journal}
pub use declared.way.Way.{Way}
