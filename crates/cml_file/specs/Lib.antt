pub mod Judging
pub mod Filing
pub mod Failing
-- the names that others import from here
pub use Judging.{IsCause, IsNext, Refuses, Stops, next_of, piece_after}
pub use Filing.{head_of, lines_of}
pub use Failing.{Fails, FailsMoving, IsUnsent, IsUnstored}
