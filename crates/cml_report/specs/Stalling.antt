-- When no thread could go on with a script.
use Rattle.std.specs.Prelude.{ℕ, ◌≡◌, ◌<◌, ◌≤◌, Bool, true, false, nat_lt, List, slice_get, Option, Some, None}
use Rattle.std.specs.Option.{option_map_or}
use Rattle.cml_board.specs.{Call, entries_in, Fits, answer}
use Rattle.cml_board.specs.declared.entry.Who.TheVariants.{Seat}
use Rattle.cml_grammar.specs.{SourceLine, Lines, names_of, seat_of_step}
use Rattle.cml_report.specs.Counting.{how_many}
use Rattle.cml_report.specs.Schedule.{History, declared_count, is_apart, next_position, positions_where, step_call}
use Rattle.cml_report.specs.Report.{Tallied}
use Rattle.cml_report.specs.Left.{is_laid, is_moved}

-- the thread with this seat has a next step, whose call fits and would wait
pub record WaitsAtNext (script : Lines) (history : History) (seat : ℕ) : Type 0 where
  pub step : ℕ
  pub asked : Call (List ℕ)
  pub next : next_position script history (Seat seat) ≡ Some step
  pub calls : step_call script history step ≡ Some asked
  pub fits : Fits history asked
  pub waits : answer history asked ≡ None

-- the same, unless its seat performed all of its steps
abbrev pub WaitsOrIsDone : Lines → History → ℕ → Type 0
WaitsOrIsDone script history seat = (step : ℕ) → next_position script history (Seat seat) ≡ Some step → WaitsAtNext script history seat

-- the step at this position is before the next of those that its thread's seat performs, or that seat has none left
abbrev pub is_before : ℕ → Option ℕ → Bool
is_before i None = true
is_before i (Some next) = nat_lt i next

abbrev pub is_passed : Lines → History → ℕ → Bool
is_passed script history i =
    option_map_or (λ (line : SourceLine). option_map_or (λ seat. is_before i (next_position script history (Seat seat)))
    (seat_of_step (names_of script) line.words) false) (slice_get script.steps i) false

-- how many of the steps that pass a test are passed in this way
abbrev pub passed_count : (SourceLine → Bool) → Lines → History → ℕ
passed_count test script history = how_many (is_passed script history) (positions_where test 0 script.steps)

-- as many steps went by lanes and feeds as are passed in this way, and lanes moved as many messages as those of them sent
pub record IsAllMoved (script : Lines) (history : History) (tally : Tallied) : Type 0 where
  pub apart : tally.apart ≡ passed_count (is_apart script) script history
  pub moved : how_many is_moved history ≡ passed_count (is_laid script) script history

-- no thread could go on: the declared objects are made, the journal has room, each thread whose seat has steps left would wait
-- at the next of them, and what goes by lanes and feeds before that is done
pub record NobodyGoesOn (script : Lines) (limit : ℕ) (history : History) (tally : Tallied) : Type 0 where
  pub made : declared_count script ≤ entries_in history
  pub room : entries_in history < limit
  pub waits : (seat : ℕ) → WaitsOrIsDone script history seat
  pub apart : IsAllMoved script history tally
