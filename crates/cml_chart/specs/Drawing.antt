-- What the drawing of a report reads and writes, by how it ends.
use Rattle.std.specs.Prelude.{ℕ, ◌+◌, ◌-◌, ◌^◌, ◌⊎◌, min, List, length, map, take, drop, ◌≡◌, Option, Some, unwrap_or, true, ⊤}
use Rattle.std.specs.Io.KnownBytes.{Consumes, IsAtEnd, Appends, Keeps}
use Rattle.cml_grammar.specs.{IsReadUpTo, Fault as ScriptFault, fault_of, Lines, IsScript}
use Rattle.cml_chart.specs.declared.report.faults.Fault.{Fault}
use Rattle.cml_chart.specs.Lines.{Deed, Thing, Ended}
use Rattle.cml_chart.specs.Shown.{shown_report}
use Rattle.cml_chart.specs.Reading.{told, report, wrong}
use Rattle.cml_chart.specs.declared.command_line.Order.{Order}
use Rattle.cml_chart.specs.declared.chart.Course.{Course}
use Rattle.cml_chart.specs.declared.chart.Row.{Row}
use Rattle.cml_chart.specs.declared.marks.Drawn.{Drawn}
use Rattle.cml_chart.specs.declared.ending.Ending.{Ending}
use Rattle.cml_chart.specs.declared.ending.Ending.TheVariants as ending
use Rattle.cml_chart.specs.Following.{IsCourse, lines_fault}
use Rattle.cml_chart.specs.Telling.{IsReportIn, is_journal}

-- These were the reader's next bytes, and no byte is left; or there are too many for a report.
abbrev pub IsRead : Option (List ℕ) → Option (List ℕ) → List ℕ → Type 0
IsRead old new text = IsReadUpTo 33554433 old new text

-- the first row that is asked for, and the last; without these options, the first of all rows, and 500 rows
abbrev pub first_of : Order → ℕ
first_of order = unwrap_or order.from 1

abbrev pub last_of : Order → ℕ
last_of order = unwrap_or order.to (min (first_of order + 499) (2 ^ 64 - 1))

-- of `count` rows, those asked for are between these two positions, as far as there are such rows
abbrev pub bounds_of : Order → ℕ → ℕ × ℕ
bounds_of order count = let end = min count (last_of order) in (min end (first_of order - 1), end)

-- the rows of a chart that are asked for, and the rows of those that are drawn
abbrev pub rows_asked : Order → List Row → List Row
rows_asked order rows = let bounds = bounds_of order (length rows) in drop bounds.0 (take bounds.1 rows)

abbrev pub rows_in : List Drawn → List Row
rows_in drawn = map (λ (d : Drawn). d.row) drawn

-- All of the reader's bytes were read, they are a report or a journal, of the script where there is one, and this is the course that
-- was drawn.
pub record IsDrawnOf (script : Option Lines) (old new : Option (List ℕ)) : Type 0 where
  pub text : List ℕ
  pub read : Consumes old new text
  pub whole : IsAtEnd new
  pub report : List ℕ
  pub is_in : IsReportIn text report
  pub course : Course
  pub says : told report ≡ shown_report course.report
  pub is_course : IsCourse script course

-- the lines are no report, or there is a fault in what they report
abbrev pub IsFaulty : Option Lines → List ℕ → Fault → Type 0
IsFaulty script text fault = (told text ≡ wrong fault)
    ⊎ ((deeds : List Deed) × (things : List Thing) × (end : Ended) × (told text ≡ report deeds things end)
    × (lines_fault script deeds things ≡ Some fault))

-- how it ends where nothing was drawn
abbrev pub EndsUndrawn : Option Lines → Option (List ℕ) → Option (List ℕ) → Ending → Type 0
EndsUndrawn script old new (ending.Fault fault) =
    (text : List ℕ) × IsRead old new text × (report : List ℕ) × IsReportIn text report × IsFaulty script report fault
EndsUndrawn script old new (ending.JournalFault line what) = (text : List ℕ) × IsRead old new text × (is_journal text ≡ true)
EndsUndrawn script old new (ending.Unended how) = (text : List ℕ) × IsRead old new text × (is_journal text ≡ true)
EndsUndrawn script old new (ending.Unlawful at) = (text : List ℕ) × IsRead old new text × (is_journal text ≡ true)
EndsUndrawn script old new ending.ReadFault = ⊤
EndsUndrawn script old new ending.NoMemory = ⊤
EndsUndrawn script old new _ = ⊥

-- nothing but some text was written, of which nothing is said; or a write failed, or nothing was drawn and nothing written
abbrev pub Draws : Option Lines → Option (List ℕ) → Option (List ℕ) → Option (List ℕ) → Option (List ℕ) → Ending → Type 0
Draws script old new held holds ending.Done = IsDrawnOf script old new × (text : List ℕ) × Appends held holds text
Draws script old new held holds ending.WriteFault = ⊤
Draws script old new held holds ended = EndsUndrawn script old new ended × Keeps held holds

-- these were all of the reader's bytes, and are this script
pub record IsGiven (old new : Option (List ℕ)) (script : Lines) : Type 0 where
  pub text : List ℕ
  pub read : Consumes old new text
  pub whole : IsAtEnd new
  pub is : IsScript text script

-- the reader's bytes are no script
abbrev pub IsWrongScript : Option (List ℕ) → Option (List ℕ) → ScriptFault → Type 0
IsWrongScript old new fault = (text : List ℕ) × IsRead old new text × (fault_of text ≡ Some fault)

-- how it ends where the script was not read, or there is no memory for it
abbrev pub EndsUnread : Option (List ℕ) → Option (List ℕ) → Ending → Type 0
EndsUnread old new (ending.ScriptFault fault) = IsWrongScript old new fault
EndsUnread old new ending.ScriptReadFault = ⊤
EndsUnread old new ending.NoMemory = ⊤
EndsUnread old new _ = ⊥

-- .. or the report was drawn, or not, by the script that was read
abbrev pub DrawsGiven : Option (List ℕ) → Option (List ℕ) → Option (List ℕ) → Option (List ℕ) → Option (List ℕ)
    → Option (List ℕ) → Ending → Type 0
DrawsGiven given left old new held holds ended =
    (EndsUnread given left ended × Keeps held holds)
    ⊎ ((script : Lines) × IsGiven given left script × Draws (Some script) old new held holds ended)
