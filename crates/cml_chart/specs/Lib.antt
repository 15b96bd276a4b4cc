pub mod Lines
pub mod Reading
pub mod Shown
pub mod Threads
pub mod Columns
pub mod Chart
pub mod Plan
pub mod Following
pub mod Telling
pub mod CommandLine
pub mod Drawing
pub mod Endings
-- the names that others import from here
pub use Lines.{Thing, before_colon, behind_step, deed_by, doer_of, fits, is_for, is_message, line_by, makes_port, may_answer, may_do}
pub use Lines.{may_leave, object_of, row_of, says}
unfoldable pub use Lines.{deed_of, ended_of, is_closing, thing_of}
pub use Reading.{IsFaultOf, SoFar, Told, nothing_yet, told, told_at_end, told_by, told_from, with_text, wrong, wrong_at}
unfoldable pub use Reading.{with_line}
pub use Shown.{line_count, shown_act, shown_actor, shown_end, shown_line, shown_object, shown_report, so_far, texts}
pub use Threads.{advanced, perform, shown_thread, shown_threads, stands_at, tells}
pub use Columns.{column_of, doer_in, doer_text, each_once, is_among, name_in, names_of, taken_from, with_name}
pub use Chart.{IsChart, arrow_of, chart_fault, joined, shown_row, titles_of, unknown_from}
pub use Plan.{IsPlan, begins, declared_in, feed_in, feeds_in, is_apart, made_at, object_in, objects_in, own_in, own_steps, port_in}
pub use Plan.{shown_made, target_in, targets_in, thread_in, threads_in}
pub use Following.{IsCourse, deeds_of, follow, is_made, lines_fault, pass, strange_thing, things_of, threads_behind}
pub use Telling.{EndsReplay, EndsUntold, IsReplayed, IsReportIn, IsTelling, IsToldAs, IsToldBy, IsWholeJournal, Replays, copy_name, counted}
pub use Telling.{doer_name, front_word, has_row, held_state, held_text, is_journal, is_of_bytes, is_of_numbers, journal_report, kind_word}
pub use Telling.{lost_by, lost_copies, lost_copy, object_name, object_state, owed_or_closed, port_by, port_field, port_made, port_state}
pub use Telling.{channel_state, mailbox_state, told_call}
pub use Telling.{doer_by, is_giving, is_got, is_no_feed, is_receiving, is_shown_by, report_or, ring_name, row, row_count, row_text, rows, shown_word, state_by, told_below, told_object, told_objects, told_reply}
pub use CommandLine.{IsAsked, IsFlag, IsRow, TellsNumber, drawing_usage, faults_of, numbered_rule, options_in, script_rule, text_rule}
pub use CommandLine.{usage}
pub use Drawing.{Draws, DrawsGiven, EndsUndrawn, EndsUnread, IsDrawnOf, IsFaulty, IsGiven, IsRead, bounds_of, rows_asked, rows_in}
pub use Endings.{ending_of_fault, ending_of_what, ending_of_script_fault, is_shown, status}
pub use declared.chart.Course.{Course}
pub use declared.report.Report.{Report}
pub use declared.report.faults.Fault.{Fault}
pub use declared.report.faults.What.{What}
