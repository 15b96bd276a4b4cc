pub mod Seating
pub mod Hosting
pub mod Asking
pub mod Running
pub mod Settling
pub mod Telling
pub mod Unparking
pub mod Growing
pub mod Failing
-- the names that others import from here
pub use Seating.{Sitting, answers_in, raised, seats_in}
pub use Hosting.{Hosted, IsCounted, MayAsk, MayAskAgain, WasCounted, floor_of, room_of, with_state}
pub use Asking.{Asks, Tallies}
pub use Running.{AreMade, Ask, AskAgain, HallCall, IsMade, Leave, NewSeat, NextDue, OnFloor, hands_over, keeps_entries}
pub use Settling.{Final}
pub use Telling.{MayRefuse, MayRefuseClose, MayRefuseDrain, MayRefuseFeed, MayRefuseLane, Replies, Responds, Returns, suits}
pub use Unparking.{HaveLeft, UnparksNext}
pub use Growing.{BeginsWith, Grows, PendingView, all_of}
pub use Failing.{MayFail}
