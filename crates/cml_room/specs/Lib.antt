pub mod Queues
pub mod Links
pub mod Places
pub mod Seats
pub mod Stalling
pub mod News
pub mod Waking
pub mod Room
pub mod Rising
pub mod Asking
pub mod Running
pub mod Frames
pub mod InTurn
pub mod Ending
pub mod Finishing
-- the names that others import from here
pub use Places.{AreAlike, AreListed, AreRoused, HaveLeft, IsMate, IsQuiet, behind_gone, is_here, is_noted, noted_as, noted_in, notice_by}
pub use Places.{notice_in, notices_in, place_due}
pub use Places.{quieted, roused, roused_notice, row_in, row_of, state_by, states_in}
pub use Seats.{IsKept, SeatsShown, WakesNext, free_by, free_in, freed, parked_by, parked_in}
pub use Stalling.{AreIdle, IsIdle, IsStalled, NoneOpen}
pub use News.{Helps, IsOf, NoNews, helps, news_in, object_of, source_of}
pub use Waking.{AreAt, Follows, HasEntries, IsWatched, NoneForgotten, WasWatched, WasWatchedAt, WouldWait, reaches}
pub use Room.{AllSleepRightly, MayAsk, MayAskAgain, Moves, NoneDue, RoomShown, SleepsRightly, floor_of, has_notice, is_due, is_parked}
pub use Room.{state_of, with_state}
pub use Rising.{BecomesDue, HasRisen, IsForOne, MakesFewByOne, MakesFewDue, MakesNoneDue, OneEach, RisesFew, WantOf, news_by}
pub use Asking.{Asks, IsBarred, Reaches}
pub use Running.{AllWouldWait, AreMade, AskOf, GivesNext, HasAsked, AnotherAsksNext, IsMade, KeepsWoken, NextDue, NobodyForgotten, Other}
pub use Running.{RoomCall, asked_by, is_returned, is_woken, was_woken, withdrawn_by, woken_in}
pub use Frames.{KeepsSeats, Settles, Stirs, Turns}
pub use InTurn.{GivesInTurn}
pub use Ending.{EndsTurn, MayEndTurn, MayTurn}
pub use Finishing.{HasTurned, TurnEnds, ended_by, told_by, with_seats}
pub use declared.notice.Notice.{Notice}
pub use declared.place.Place.{Place}
pub use declared.place.Waiter.{Waiter}
pub use declared.state.State.{State}
