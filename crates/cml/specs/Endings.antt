-- The exit status of an ending, and whether standard error shows it.
use Rattle.std.specs.Prelude.{ℕ, Bool, true, false}
use Rattle.cml_report.specs.Endings as script
use Rattle.cml_script.specs.{Ending as ScriptEnding}
use Rattle.cml_report.specs.declared.ending.Ending.TheVariants as ended
use Rattle.cml_explore.specs.Endings as explored
use Rattle.cml_explore.specs.{Ending as ExploredEnding}
use Rattle.cml_explore.specs.declared.ending.Ending.TheVariants.{Script, TooMany}
use Rattle.cml.specs.declared.check.ending.Ending.{Ending as CheckEnding}
use Rattle.cml.specs.declared.check.ending.Ending.TheVariants.{Lawful, Unlawful, Fault, Unended, BehindCut, ReadFault, WriteFault, NoMemory}
use Rattle.cml.specs.declared.check.ending.Ending.TheVariants.{Compacted, TooLong}
use Rattle.cml.specs.declared.ending.Ending.{Ending}
use Rattle.cml.specs.declared.ending.Ending.TheVariants.{Performed, Explored, Checked}

abbrev pub status_of_check : CheckEnding → ℕ
status_of_check (Lawful count state) = 0
status_of_check (Compacted written) = 0
status_of_check (Unlawful at line answer) = 7
status_of_check (Fault line what expected found) = 2
status_of_check (Unended ends) = 2
status_of_check BehindCut = 2
status_of_check (TooLong place) = 2
status_of_check ReadFault = 4
status_of_check WriteFault = 4
status_of_check NoMemory = 5

abbrev pub is_check_shown : CheckEnding → Bool
is_check_shown (Lawful count state) = false
is_check_shown (Compacted written) = false
is_check_shown (Unlawful at line answer) = false
is_check_shown ending = true

-- a report tells the endings that have one
abbrev pub is_script_shown : ScriptEnding → Bool
is_script_shown ended.Done = false
is_script_shown ended.Stalled = false
is_script_shown ended.Full = false
is_script_shown ended.Held = false
is_script_shown _ = true

abbrev pub is_explored_shown : ExploredEnding → Bool
is_explored_shown (Script ending) = is_script_shown ending
is_explored_shown (TooMany states) = true

abbrev pub status : Ending → ℕ
status (Performed ending) = script.status ending
status (Explored ending) = explored.status ending
status (Checked ending) = status_of_check ending

abbrev pub is_shown : Ending → Bool
is_shown (Performed ending) = is_script_shown ending
is_shown (Explored ending) = is_explored_shown ending
is_shown (Checked ending) = is_check_shown ending
