pub use Rattle.cml_grammar.specs.Script
pub use Rattle.cml_grammar.specs.Meaning
pub use Rattle.cml_grammar.specs.Faults
pub use Rattle.cml_grammar.specs.Rings
pub use Rattle.cml_board.specs.History
pub use Rattle.cml_board.specs.Kept
pub use Rattle.cml_board.specs.Positions
pub use Rattle.cml_board.specs.Checking
pub use Rattle.cml_report.specs.Counting
pub use Rattle.cml_report.specs.Schedule
pub use Rattle.cml_report.specs.Report
pub use Rattle.cml_report.specs.Left
pub use Rattle.cml_report.specs.Stalling
pub use Rattle.cml_report.specs.Endings
pub use Rattle.cml_report.specs.Written
pub use Rattle.cml_report.specs.Plan
pub use Rattle.cml_report.specs.Bindings
pub use Rattle.cml_report.specs.Makes
pub use Rattle.cml_report.specs.Objects
pub use Rattle.cml_report.specs.Audit
pub use Rattle.cml_report.specs.Lanes
pub use Rattle.cml_report.specs.Follower
pub use Rattle.cml_report.specs.Snapshot
pub use Rattle.cml_report.specs.Reading
pub use Rattle.cml_report.specs.Concluding
pub use Rattle.cml_report.specs.Ran
pub use Rattle.cml_replay.specs.Play
pub use Rattle.cml_replay.specs.Execution
pub use Rattle.cml_replay.specs.Replay
pub use Rattle.cml_replay.specs.Laws
pub mod Apart
pub mod Working
pub mod Declaring
pub mod Course
pub mod Running
-- the names that others import from here
pub use Apart.{act_of, act_of_line, by_feed, by_lane, earlier_apart, goes_apart}
pub use Working.{AreByMakers, AreBySeat, AreNextSteps, AreOpened, BeginsAt, Declares, IsOpening, IsStop, IsTurn, IsUnheld, IsUnrefused}
pub use Working.{Made, MayCall, Works, capacity_made, ending_with, feed_capacity, first_of, is_of_feed, stop_of, waits, with_apart}
pub use Working.{with_call, with_closed, with_feed, with_refused}
pub use Declaring.{HasCapacity, HasMade, making}
pub use Course.{AreSuiting, HasTaken, IsAfter, IsAt, IsRefusedSo, IsUnderWay, closed_if}
pub use Running.{AreScript, EndsUntold, IsOfRun, IsRunText, IsUnsettled, IsUntold, Runs, RunsAs, RunsJournal}
-- and from the crates below
pub use Rattle.cml_report.specs.{AreAll, AreBindings, AreCounts, AreFeedNumbers, AreGivings, AreLaid, AreMakers, AreNumbers, AreObjects}
pub use Rattle.cml_report.specs.{AreOnLines, AreQueues, AreSentInOrder, AreSmallCounts, AsksForPorts, Binding, CountsOneMore, Ending, Ends}
pub use Rattle.cml_report.specs.{Follows, Form, HasLaneRoom, HasLeft, HasSeats, History, IsAllDone, IsAllMoved, IsAstray, IsBehind}
pub use Rattle.cml_report.specs.{IsDeclaration, IsFaulty, IsFirstForeign, IsFollowed, IsInOrder, IsInOrderAt, IsKnown, IsMadeOfDeclared}
pub use Rattle.cml_report.specs.{IsNextLaid, IsNextOf, IsNextOfThread, IsNoThread, IsNotSent, IsObject, IsObjectAt, IsOfCaller, IsOfFeed}
pub use Rattle.cml_report.specs.{IsOfLane, IsOfScript, IsOnLine, IsOwn, IsRead, IsReady, IsRefused, IsRefusedRan, IsReportOf, IsSent}
pub use Rattle.cml_report.specs.{IsStep, IsTakenAt, IsTextOf, IsTextOfRan, IsThread, Judges, NamesObjects, NobodyGoesOn, NoneReady, Played}
pub use Rattle.cml_report.specs.{Progress, RanLeaves, RanMayEnd, Route, Stop, Tallied, Told, WaitsAtNext, WaitsOrIsDone, Writes}
pub use Rattle.cml_report.specs.{apart_count, binding_of, bound_by, call_in, call_of, call_on, call_to, channel_counts, closed_by}
pub use Rattle.cml_report.specs.{declared_call, declared_count, declared_object, earlier, end_line, ending_of_fault, ending_of_stop}
pub use Rattle.cml_report.specs.{ending_of_unread, entry_line, entry_lines, feed_at, feed_count, feed_route, given_by, given_word}
pub use Rattle.cml_report.specs.{gives_next, held_text, history_of, how_many, is_apart, is_before, is_by, is_by_ring, is_called, is_feed}
pub use Rattle.cml_report.specs.{is_laid, is_laid_to, is_lane, is_lane_of, is_moved, is_moved_on, is_moved_to, is_object, is_of_name}
pub use Rattle.cml_report.specs.{is_of_thread, is_passed, is_seat, is_seated, is_sent_to, is_step_entry, items_of, journal_text}
pub use Rattle.cml_report.specs.{kind_declared, kind_made, laid_count, lane_route, leads_to, left, line_text, mailbox_counts, maker}
pub use Rattle.cml_report.specs.{makes_object, making_call, message_mark, moved_to, named_line, next_call, next_given, next_position}
pub use Rattle.cml_report.specs.{next_step, next_text, no_rings, number_of, object_among, object_line, object_lines_from, object_of}
pub use Rattle.cml_report.specs.{objects_of, one_if, passed_count, performed, performed_count, port_bound, port_counts, port_made}
pub use Rattle.cml_report.specs.{positions_from, positions_where, ran_text, reply_word, report, route_at, route_of, route_of_line}
pub use Rattle.cml_report.specs.{sends_to, sent_text, sent_to, state_text, status, step_call, taken_by, taken_from, text_as, unperformed}
pub use Rattle.cml_report.specs.{with_binding, with_next, word_line}
unfoldable pub use Rattle.cml_report.specs.{made_of}
pub use Rattle.cml_replay.specs.{EndsUnplayed, EndsUnplayedText, Executed, IsBound, IsLeast, IsLeastBelow, IsNext, IsNextObject}
pub use Rattle.cml_replay.specs.{IsNextPort, IsNextStep, IsPlayed, IsPlayedAs, IsPlayedText, IsPlayedTextAs, IsReadyOf, IsStepAt}
pub use Rattle.cml_replay.specs.{IsTextForRun, NoneReadyOf, Replays, ReplaysAs, ReplaysJournal, ReportsTellWhatIsLeft, SchedulesAreOne}
pub use Rattle.cml_replay.specs.{ScriptsHaveASchedule, SomeThreadIsStuck, SomeThreadWaits, StalledThreadsWait, Stands, WaitsIf, earlier_of}
pub use Rattle.cml_replay.specs.{steps_of_seat, with_entry}
