pub mod CommandLine
pub mod Endings
pub mod Compacted
pub mod Checking
pub mod Lines
-- the names that others import from here
pub use CommandLine.{AreOfUse, AreUses, AsksFor, AsksHelp, Finds, FindsBoth, FindsFlag, FindsLimit, Flag, HasOrder, IsLimitOption, Limit}
pub use CommandLine.{Reads, ReadsAs, Use, asked_of, checking, compacting, faults_of, flag_rule, form_if, given_by, limit_of, limit_rule}
pub use CommandLine.{exploring, performing, script_shape, state_by, usage}
pub use Endings.{is_check_shown, is_explored_shown, is_script_shown, status_of_check}
pub use Compacted.{IsCompactOf, IsNoneOf, IsShortened, IsTextOf, IsUnwritten, whole_piece}
pub use Checking.{Concludes, ConcludesAs, ConcludesBy, EndsAs, EndsIn, EndsInFront, GivesCut, IsEarly, IsFront, IsHeardOut, IsRead}
pub use Checking.{IsSilent, IsStateOf, IsToldFaulty, IsToldLawful, IsToldShort, IsToldUnlawful, IsVerdict, Tells, TellsAs, ending_of, is_behind_cut}
pub use Checking.{is_of_bytes, is_plain_cut, is_sealed_cut, wanted_by}
pub use Lines.{Writes, answer_text, channel_line, counted, expected_text, lines_for, mailbox_line, object_head, object_line, object_lines, port_line}
pub use Lines.{state_lines, told_state, told_sum, variable_line}
pub use declared.asked.Order.{Order}
