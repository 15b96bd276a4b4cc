pub use Rattle.cml_grammar.specs.Script
pub use Rattle.cml_grammar.specs.Meaning
pub use Rattle.cml_grammar.specs.Faults
pub use Rattle.cml_grammar.specs.Rings
pub use Rattle.cml_board.specs.History
pub use Rattle.cml_board.specs.Kept
pub use Rattle.cml_board.specs.Positions
pub use Rattle.cml_board.specs.Checking
pub use Rattle.cml_report.specs.Counting
pub use Rattle.cml_report.specs.Schedule
pub use Rattle.cml_report.specs.Report
pub use Rattle.cml_report.specs.Left
pub use Rattle.cml_report.specs.Stalling
pub use Rattle.cml_report.specs.Endings
pub use Rattle.cml_report.specs.Written
pub use Rattle.cml_report.specs.Plan
pub use Rattle.cml_report.specs.Bindings
pub use Rattle.cml_report.specs.Makes
pub use Rattle.cml_report.specs.Objects
pub use Rattle.cml_report.specs.Audit
pub use Rattle.cml_report.specs.Lanes
pub use Rattle.cml_report.specs.Follower
pub use Rattle.cml_report.specs.Snapshot
pub use Rattle.cml_report.specs.Reading
pub use Rattle.cml_report.specs.Concluding
pub use Rattle.cml_report.specs.Ran
pub mod Play
pub mod Execution
pub mod Replay
pub mod Laws
-- the names that others import from here
pub use Play.{IsPlayed, IsPlayedAs}
pub use Execution.{Executed, IsBound, IsLeast, IsLeastBelow, IsNext, IsNextObject, IsNextPort, IsNextStep, IsReadyOf, IsStepAt}
pub use Execution.{NoneReadyOf, Stands, WaitsIf, earlier_of, with_entry}
pub use Replay.{EndsUnplayed, EndsUnplayedText, IsPlayedText, IsPlayedTextAs, IsTextForRun, Replays, ReplaysAs, ReplaysJournal}
pub use Laws.{ReportsTellWhatIsLeft, SchedulesAreOne, ScriptsHaveASchedule, SomeThreadIsStuck, SomeThreadWaits, StalledThreadsWait}
pub use Laws.{steps_of_seat}
