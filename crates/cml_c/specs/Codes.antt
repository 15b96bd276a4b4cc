-- What a call returns to C, and by which number.
use Rattle.std.specs.Prelude.{ℕ, Result, Ok, Err}
use Rattle.cml_board.specs.{Refusal}
use Rattle.cml_board.specs.declared.outcome.Refusal.TheVariants as refusal
use Rattle.cml_c.specs.declared.code.Code.{Code}
use Rattle.cml_c.specs.declared.code.Code.TheVariants as code

abbrev pub number : Code → ℕ
number code.Done = 0
number code.Nothing = 1
number code.Put = 2
number code.Closed = 3
number code.Parked = 4
number code.Gone = 5
number code.Busy = 6
number code.NoSuch = 7
number code.WrongKind = 8
number code.JournalFull = 9
number code.Stalled = 10
number code.NoMemory = 11
number code.Unseen = 12
number code.Full = 13
number code.StillOpen = 14
number code.WrongHandle = 15
number code.OutOfBounds = 16
number code.Unlawful = 17
number code.Fault = 18
number code.Torn = 19
number code.TooLong = 20
number code.TextOpen = 22
number code.NoJournal = 23

-- a refusal has the code of the same name
abbrev pub of_refusal : Refusal → Code
of_refusal refusal.Gone = code.Gone
of_refusal refusal.Busy = code.Busy
of_refusal refusal.NoSuch = code.NoSuch
of_refusal refusal.WrongKind = code.WrongKind
of_refusal refusal.JournalFull = code.JournalFull
of_refusal refusal.Stalled = code.Stalled
of_refusal refusal.NoMemory = code.NoMemory
of_refusal refusal.Unseen = code.Unseen

-- the code of a call that is done, whatever it gives, or refused
abbrev pub told_outcome : {X : Type 0} → Result X Refusal → Code
told_outcome (Ok given) = code.Done
told_outcome (Err refusal) = of_refusal refusal

-- the content then of the place where a count is written, if the call gives one
abbrev pub written_count : ℕ → Result ℕ Refusal → ℕ
written_count before (Ok count) = count
written_count before (Err refusal) = before
