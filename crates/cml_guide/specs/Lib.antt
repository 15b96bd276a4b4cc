pub mod Blanks
-- the names that others import from here
pub use Blanks.{IsBlankOf}
