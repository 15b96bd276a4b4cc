pub mod Leaving
pub mod Stages
pub mod Slowest
pub mod Planning
pub mod Compacting
pub mod Stepping
-- the names that others import from here
pub use Leaving.{FollowedAlike, LeavesTheSame, SameChannels, SameHeld, SameKinds, SameOpen, SameOwed}
pub use Stages.{begun_anew, begun_before, passed_over, settled, stock, stocked}
pub use Compacting.{AllBy, Compacts, IsShortJournal, IsSomeShortJournal, Stops, compact_size, last_seat}
