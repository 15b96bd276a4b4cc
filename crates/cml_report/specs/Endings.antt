-- How a run ends, by what stopped it, and the exit status of each ending.
use Rattle.std.specs.Prelude.{ℕ}
use Rattle.cml_grammar.specs.{What, Fault, Unread}
use Rattle.cml_grammar.specs.declared.fault.What.TheVariants as what
use Rattle.cml_grammar.specs.declared.input.Unread.TheVariants as unread
use Rattle.cml_report.specs.declared.stop.Stop.{Stop}
use Rattle.cml_report.specs.declared.stop.Stop.TheVariants as stop
use Rattle.cml_report.specs.declared.ending.Ending.{Ending}
use Rattle.cml_report.specs.declared.ending.Ending.TheVariants as ending

abbrev pub ending_of_stop : Stop → Ending
ending_of_stop stop.Done = ending.Done
ending_of_stop stop.Stalled = ending.Stalled
ending_of_stop stop.Full = ending.Full
ending_of_stop stop.Held = ending.Held

abbrev pub ending_of_unread : Unread → Ending
ending_of_unread unread.Failed = ending.ReadFault
ending_of_unread unread.Memory = ending.NoMemory

-- want of memory is no fault of the script
abbrev pub ending_of_what : What → Fault → Ending
ending_of_what what.Memory fault = ending.NoMemory
ending_of_what _ fault = ending.Fault fault

abbrev pub ending_of_fault : Fault → Ending
ending_of_fault fault = ending_of_what fault.what fault

abbrev pub status : Ending → ℕ
status ending.Done = 0
status ending.Stalled = 1
status (ending.Fault fault) = 2
status ending.ReadFault = 4
status ending.WriteFault = 4
status ending.NoMemory = 5
status ending.Full = 6
status (ending.NotLawful at) = 7
status ending.Held = 1
