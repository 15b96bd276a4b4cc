pub use Rattle.cml_grammar.specs.Script
pub use Rattle.cml_grammar.specs.Meaning
pub use Rattle.cml_grammar.specs.Faults
pub use Rattle.cml_grammar.specs.Rings
pub use Rattle.cml_board.specs.History
pub use Rattle.cml_board.specs.Kept
pub use Rattle.cml_board.specs.Positions
pub use Rattle.cml_board.specs.Checking
pub mod Counting
pub mod Schedule
pub mod Report
pub mod Left
pub mod Stalling
pub mod Endings
pub mod Written
pub mod Plan
pub mod Bindings
pub mod Makes
pub mod Objects
pub mod Audit
pub mod Lanes
pub mod Follower
pub mod Snapshot
pub mod Reading
pub mod Concluding
pub mod Ran
-- the names that others import from here
pub use Counting.{how_many, one_if}
pub use Schedule.{Ends, Follows, History, IsDeclaration, IsReady, IsStep, NoneReady, apart_count, binding_of, bound_by, call_in, call_of}
pub use Schedule.{call_on, closed_by, declared_count, declared_object, earlier, feed_at, feed_count, feed_route, given_by, gives_next}
pub use Schedule.{is_apart, is_by, is_by_ring, is_called, is_feed, is_object, is_seat, is_seated, lane_route, left, maker, makes_object}
pub use Schedule.{making_call, next_position, number_of, object_of, objects_of, performed, port_bound, port_made, positions_from}
pub use Schedule.{positions_where, route_of, route_of_line, step_call}
unfoldable pub use Schedule.{made_of}
pub use Report.{Tallied, channel_counts, end_line, entry_line, entry_lines, given_word, held_text, is_of_thread, is_step_entry, line_text}
pub use Report.{mailbox_counts, message_mark, named_line, next_step, no_rings, object_line, object_lines_from, performed_count}
pub use Report.{port_counts, reply_word, report, sent_text, state_text, taken_by, taken_from, unperformed, word_line}
pub use Left.{HasLeft, IsAllDone, is_laid, is_lane, is_moved, laid_count}
pub use Stalling.{IsAllMoved, NobodyGoesOn, WaitsAtNext, WaitsOrIsDone, is_before, is_passed, passed_count}
pub use Endings.{ending_of_fault, ending_of_stop, ending_of_unread, status}
pub use Written.{Writes, journal_text, text_as}
pub use Plan.{AreFeedNumbers, AreGivings, AreNumbers, AreQueues, AsksForPorts, HasLaneRoom, HasSeats, IsKnown, IsObject, IsObjectAt}
pub use Plan.{NamesObjects, items_of, kind_declared, kind_made, object_among, route_at}
pub use Bindings.{AreBindings, AreCounts, with_binding}
pub use Makes.{IsMadeOfDeclared}
pub use Objects.{AreLaid, AreMakers, AreObjects}
pub use Audit.{IsFirstForeign, IsNextOfThread, IsOfCaller, IsOfFeed, IsOfLane, IsOfScript, IsOwn, Judges, leads_to, sent_to}
pub use Lanes.{AreOnLines, AreSentInOrder, IsAstray, IsBehind, IsInOrder, IsInOrderAt, IsNextLaid, IsNotSent, IsOnLine, IsSent, call_to}
pub use Lanes.{is_laid_to, is_lane_of, is_moved_on, is_moved_to, is_of_name, is_sent_to, moved_to, sends_to}
pub use Follower.{AreSmallCounts, CountsOneMore, IsFollowed, IsNextOf, IsNoThread, IsThread, Progress, declared_call, history_of}
pub use Follower.{next_call, next_given, next_text, with_next}
pub use Snapshot.{Told}
pub use Reading.{AreAll, IsFaulty, IsRead}
pub use Concluding.{IsRefused, IsReportOf, IsTakenAt, IsTextOf}
pub use Ran.{IsRefusedRan, IsTextOfRan, RanLeaves, RanMayEnd, ran_text}
pub use declared.binding.Binding.{Binding}
pub use declared.ending.Ending.{Ending}
pub use declared.form.Form.{Form}
pub use declared.played.Played.{Played}
pub use declared.route.Route.{Route}
pub use declared.stop.Stop.{Stop}
