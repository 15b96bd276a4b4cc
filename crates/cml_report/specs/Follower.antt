-- The inside of `audit` and of a report: a journal that is followed entry by entry beside a script, and what is kept of it.
use Rattle.std.specs.Prelude.{ℕ, ◌≡◌, ◌≢◌, ◌+◌, ◌^◌, ◌<◌, ◌≤◌, List, [], ◌∷◌, length, slice_get, Option, Some}
use Rattle.std.specs.Option.{option_map_or, option_and_then}
use Rattle.cml_board.specs.{Call, Who, Entry, entries_in, before}
use Rattle.cml_board.specs.declared.entry.Who.TheVariants.{Seat}
use Rattle.cml_grammar.specs.{Step, Lines, names_of, source_of, ReadsStep}
use Rattle.cml_report.specs.declared.binding.Binding.{Binding}
use Rattle.cml_report.specs.Schedule.{History, objects_of, call_in, step_call, next_position, given_by}
use Rattle.cml_report.specs.Plan.{IsKnown}
use Rattle.cml_report.specs.Bindings.{AreBindings, AreCounts}
use Rattle.cml_report.specs.declared.objects.Objects.{Objects}
use Rattle.cml_report.specs.Objects.{AreObjects}
use Rattle.cml_report.specs.Report.{next_step, line_text}

-- the script, a journal, and how many of its entries were followed
pub record Progress : Type 0 where
  pub script : Lines
  pub journal : List (Entry (List ℕ))
  pub followed : ℕ

-- the entries that were followed, newest first
abbrev pub history_of : Progress → History
history_of progress = before progress.journal progress.followed

-- one entry more was followed
abbrev pub with_next : Progress → Progress
with_next progress = record { script = progress.script; journal = progress.journal; followed = progress.followed + 1 }

-- the caller is this thread: threads have the seats from 1 to 64
abbrev pub IsThread : Who → ℕ → Type 0
IsThread who thread = (thread < 64) × (who ≡ Seat (thread + 1))

-- .. or none
abbrev pub IsNoThread : Who → Type 0
IsNoThread who = (thread : ℕ) → thread < 64 → who ≢ Seat (thread + 1)

-- by thread, how many calls it made in some history that isn't too long to count
abbrev pub AreSmallCounts : List ℕ → Type 0
AreSmallCounts counts = (history : History) × AreCounts history counts × (entries_in history + 1 < 2 ^ 64)

-- the same of any history with one more entry by this caller
abbrev pub CountsOneMore : List ℕ → Who → List ℕ → Type 0
CountsOneMore counts who later = (history : History) (entry : Entry (List ℕ)) → entry.who ≡ who → AreCounts history counts
    → AreCounts (entry ∷ history) later

-- the name that the caller's next step gives
abbrev pub next_given : Lines → History → Who → Option ℕ
next_given script history who = option_and_then (given_by script) (next_position script history who)

-- the step is the caller's next: its position, its line, and what it is read as
pub record IsNextOf (script : Lines) (history : History) (who : Who) (step : Step) : Type 0 where
  pub at : ℕ
  pub next : next_position script history who ≡ Some at
  pub line : slice_get script.steps at ≡ Some (source_of step.line)
  pub reads : ReadsStep (names_of script) step

-- the call of the caller's next step
abbrev pub next_call : Lines → History → Who → Option (Call (List ℕ))
next_call script history who = option_and_then (step_call script history) (next_position script history who)

-- the call that makes the next declared object
abbrev pub declared_call : Lines → History → Option (Call (List ℕ))
declared_call script history = option_and_then (call_in script history) (slice_get (objects_of script) (entries_in history))

-- the line of the caller's next step, if it has one
abbrev pub next_text : Lines → History → Who → List ℕ
next_text script history who = option_map_or line_text (next_step script history who) []

-- what a follower keeps is so of the entries that were followed
pub record IsFollowed (progress : Progress) (kept : Objects) (counts : List ℕ) (bindings : List Binding) : Type 0 where
  pub within : progress.followed ≤ length progress.journal
  pub known : IsKnown progress.script
  pub objects : AreObjects progress.script kept
  pub counted : AreCounts (history_of progress) counts
  pub bound : AreBindings progress.script (history_of progress) bindings
