pub mod Endings
-- the names that others import from here
pub use declared.ending.Ending.{Ending}
