pub mod Kinds
pub mod Table
pub mod Shown
pub mod Sizes
pub mod Body
pub mod Text
-- the names that others import from here
pub use Kinds.{admits, is_channel, is_mailbox, is_mvar, is_port, is_receiver, is_source, is_variable}
pub use Table.{Row, ask_at, ask_of, asked, asks, filled, give_at, give_of, given, gives, is_name, made, make_at, make_of, makes, names_one}
pub use Table.{row}
pub use Shown.{shown}
pub use Sizes.{IsTooLong}
pub use Body.{bytes_of}
pub use Text.{is_text, is_text_byte}
pub use declared.kind.Kind.{Kind}
pub use declared.shape.ReplyKind.{ReplyKind}
pub use declared.shape.Takers.{Takers}
pub use declared.table.Ask.{Ask}
pub use declared.table.Give.{Give}
pub use declared.table.Make.{Make}
