pub mod Lines
pub mod Reading
pub mod Written
pub mod Numbers
pub mod NumberLaws
pub mod Escapes
pub mod EscapeLaws
pub mod Words
pub mod Streams
pub mod Feeding
pub mod Lengths
pub mod Faults
pub mod Due
pub mod Checks
pub mod Sums
pub mod SumWords
-- the names that others import from here
pub use Lines.{HasLine, ReplyFits, call_text, field, line_of, reply_text, who_number, who_text, who_word}
pub use Reading.{Fails, Gives, call_by, called_by, cut, ok_or, told_by, without_colon, ◌>>=◌}
unfoldable pub use Reading.{asked_at, call_at, called_at, entry_in, filled_at, given_at, last_at, made_in, made_known, name_in, number_in}
unfoldable pub use Reading.{reply_in, told_in, who_at, who_by, word_at}
pub use Written.{IsWritten}
pub use Numbers.{number_of}
pub use Escapes.{before, byte_at, byte_text, bytes_text, digit_in, escape_at, escaped, if_short, is_plain, message_of_word, plain}
unfoldable pub use Escapes.{bytes_in}
pub use Words.{script_word}
pub use Streams.{WritesSummed, from_lines, head_lines, numbered_line, piece_lines, stream_lines, text_of, with_line_end}
pub use Streams.{IsJournalOf, IsTextOf, named_line, piece_sum, sealed_end, sealed_header, sealed_lines, sealed_piece_lines, sealed_stream_lines}
pub use Streams.{stream_sum}
pub use Lengths.{AreShort, IsShort, IsTooLong, MayBeTooLong}
pub use Feeding.{IsReadable, IsSealedRead, MaybeSum, Read, State, Step, begun, behind, byte_read, closed_by, end_by, end_of, ended_by}
pub use Feeding.{filled, fresh, from_by, header_fault}
pub use Feeding.{begun_at, has_end, header_behind, headed_by, held, held_all, inside_by, is_end, kept_behind, last_sum, line_step, link_at, most, no_entry, number_before, numbered}
pub use Feeding.{begins_journal, first_unended, printed, unended, unended_at, unended_behind, unended_within}
pub use Feeding.{kept_by, kept_sum, plain_headed, sealed_by, sealed_headed, sealed_where, sum_behind, sum_within, sums, sums_line, tailed, waiting_at}
unfoldable pub use Feeding.{behind_header, entered, headed, inside, line_read, reading, turned}
pub use Faults.{HasFault, HasFront, Leaves, Meets}
pub use Due.{due_inside, due_line, end_due, first_due, from_due, headers_due, quoted, shown_byte, shown_front, shown_line, stage_due}
pub use Checks.{Goes, HaltTells, HaltsIn, IsFaultyJournal, IsLawfulJournal, IsRestored, IsSoFar, IsSpent, IsTold, IsUnlawfulJournal}
pub use Checks.{MayHaltAt, Progress, ShowsFault, ShowsFront, ShowsUnlawful, StopsIn, halt_of, line_of_last}
pub use Sums.{Summed, nothing_summed, and_byte, sum_by, sum_of}
unfoldable pub use Sums.{and_bytes}
pub use SumWords.{sum_word, sum_in, IsSum}
pub use declared.fault.Unended.{Unended}
pub use declared.fault.Unread.{Unread}
pub use declared.fault.Unwritten.{Unwritten}
pub use declared.fault.What.{What}
pub use declared.reader.Form.{Form}
pub use declared.reader.Link.{Link}
pub use declared.reader.Stage.{Stage}
pub use declared.stop.Halt.{Halt}
pub use declared.stop.Stop.{Stop}
pub use declared.sum.Sum.{Sum}
