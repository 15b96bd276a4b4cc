-- What was performed of a script by a teller.
use Rattle.std.specs.Prelude.{Result, Ok, Err}
use Rattle.std.specs.declared.alloc.AllocError.{AllocError}
use Rattle.cml_board.specs.{Refusal}
use Rattle.cml_grammar.specs.{Lines}
use Rattle.cml_script.specs.{Stop, Made, Declares, Works}

-- the declared objects up to one that was refused were made; or all of them were made, and then the first thread's steps
-- after just these
abbrev pub IsPerformed : Lines → Result (Made × Result Stop AllocError) (Made × Refusal) → Type 0
IsPerformed script (Err undeclared) = Declares script undeclared.0 (Err undeclared.1)
IsPerformed script (Ok performed) = (declared : Made) × Declares script declared (Ok tt)
    × Works script 1 performed.0 performed.1 declared.entries
