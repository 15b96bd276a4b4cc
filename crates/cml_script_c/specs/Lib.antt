pub mod Replaying
-- the names that others import from here
pub use Replaying.{Fills, HasNoRoom, IsReplay, line_of}
