-- How the drawing of a report ends, and the exit status of each ending.
use Rattle.std.specs.Prelude.{ℕ, Bool, true, false}
use Rattle.cml_chart.specs.declared.report.faults.What.{What}
use Rattle.cml_chart.specs.declared.report.faults.What.TheVariants as what
use Rattle.cml_chart.specs.declared.report.faults.Fault.{Fault}
use Rattle.cml_grammar.specs.{What as WrongScript, Fault as ScriptFault}
use Rattle.cml_grammar.specs.declared.fault.What.TheVariants as wrong
use Rattle.cml_chart.specs.declared.ending.Ending.{Ending}
use Rattle.cml_chart.specs.declared.ending.Ending.TheVariants as ending

-- want of memory is no fault of the report
abbrev pub ending_of_what : What → Fault → Ending
ending_of_what what.Memory fault = ending.NoMemory
ending_of_what _ fault = ending.Fault fault

abbrev pub ending_of_fault : Fault → Ending
ending_of_fault fault = ending_of_what fault.what fault

abbrev pub ending_of_script_what : WrongScript → ScriptFault → Ending
ending_of_script_what wrong.Memory fault = ending.NoMemory
ending_of_script_what _ fault = ending.ScriptFault fault

abbrev pub ending_of_script_fault : ScriptFault → Ending
ending_of_script_fault fault = ending_of_script_what fault.what fault

abbrev pub is_shown : Ending → Bool
is_shown ending.Done = false
is_shown _ = true

abbrev pub status : Ending → ℕ
status ending.Done = 0
status (ending.Fault fault) = 2
status (ending.ScriptFault fault) = 2
status (ending.JournalFault line what) = 2
status (ending.Unended how) = 2
status (ending.Unlawful at) = 7
status ending.ScriptReadFault = 4
status ending.ReadFault = 4
status ending.WriteFault = 4
status ending.NoMemory = 5
