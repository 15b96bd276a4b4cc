pub mod Rings
pub mod Telling
pub mod Performed
-- the names that others import from here
pub use Rings.{IsUnasked, asked, with_call, with_feed}
pub use Telling.{EndsWith, unmade}
pub use Performed.{IsPerformed}
