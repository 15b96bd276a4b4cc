pub mod Log
pub mod Holds
pub mod PlainLog
pub mod Blocks
pub mod Lends
pub mod Row
pub mod Contents
pub mod Chain
pub mod Linked
pub mod Cursors
pub mod ChunkLog
-- the names that others import from here
pub use Log.{IsOpen, Opens, chunk_count, chunk_start, cursor_count, empty_log, least, lent, next_of, owed_items, place_at, place_of, trimmed}
pub use Log.{with_item, with_place}
pub use Holds.{IsTidy}
pub use PlainLog.{IsSound, chunk_of}
pub use Blocks.{IsBare, IsKept, block_at, block_lent, block_owns, blocks_lent, blocks_own, fits, heap, link_to, right_owns, token}
pub use Lends.{with_content}
pub use Row.{IsBlank, IsFilled, IsRow, Written, past, reach, unwritten, written}
pub use Contents.{KeepsCounts, Rewrites, cell_of, items_of, link_at, link_of, row_at, row_of, taken_at, taken_of}
pub use Contents.{with_cursors, with_link, with_row, with_taken}
pub use Chain.{Chunks, LiesAt, Passed, Pushed, cell_at, count_at, count_of, end_of, is_idle, passed, with_count}
pub use Linked.{IsChain, IsLinked}
pub use Cursors.{slots_of}
pub use ChunkLog.{HoldsChunk, IsAhead, IsHeld, IsTrim, IsWhole, cursor_at, log_of, place_in, standing, weight}
pub use declared.chunk.Chunk.{Chunk}
pub use declared.chunk.raw.Address.{Address}
pub use declared.chunk.raw.Counter.{Counter}
pub use declared.cursors.Cursor.{Cursor}
pub use declared.row.Slot.{Slot}
pub use declared.row.gone.Gone.{Gone}
