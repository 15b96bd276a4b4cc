-- How a simulation ends: its exit status, and whether standard error says so.
use Rattle.std.specs.Prelude.{ℕ, Bool, true, false}
use Rattle.cml_queueing.specs.declared.ending.Ending.{Ending}
use Rattle.cml_queueing.specs.declared.ending.Ending.TheVariants.{Done, NoLoad, NoDecimal, Overload, TooLong, Refused, Unserved}
use Rattle.cml_queueing.specs.declared.ending.Ending.TheVariants.{WriteFault, NoMemory}

abbrev pub status : Ending → ℕ
status Done = 0
status NoLoad = 3
status (NoDecimal option) = 3
status Overload = 3
status TooLong = 3
status WriteFault = 4
status NoMemory = 5
status Refused = 7
status Unserved = 7

abbrev pub is_shown : Ending → Bool
is_shown Done = false
is_shown ending = true
