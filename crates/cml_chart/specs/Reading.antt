-- Which text is which report, and what is wrong with one that is none.
use Rattle.std.specs.Prelude.{ℕ, ◌+◌, ◌≡◌, ◌⊎◌, ◌||◌, not, ◌==◌, nat_lt, List, [], ◌∷◌, ◌++◌, length, Option, Some, None}
use Rattle.std.specs.Prelude.{is_some, Result, Ok, Err, if◌then◌else◌}
use Rattle.std.specs.Option.{option_map_or}
use Rattle.std.specs.List.{list_any}
use Rattle.cml_grammar.specs.{parts_of, is_bad_byte}
use Rattle.cml_chart.specs.declared.report.faults.What.{What}
use Rattle.cml_chart.specs.declared.report.faults.What.TheVariants.{NoLineEnd, BadBytes, NoReportLine, OutOfPlace, NoEndLine}
use Rattle.cml_chart.specs.declared.report.faults.What.TheVariants.{TooLong, Memory}
use Rattle.cml_chart.specs.declared.report.faults.Fault.{Fault}
use Rattle.cml_chart.specs.Lines.{Deed, Thing, Ended, Line, deed, thing, ended, line_of}

-- the lines so far: those of the first part, of the second, and the last one
pub record SoFar : Type 0 where
  pub deeds : List Deed
  pub things : List Thing
  pub end : Option Ended

abbrev pub nothing_yet : SoFar
nothing_yet = record { deeds = []; things = []; end = None }

-- one line more: it may follow lines of the same part and of the parts before
unfoldable pub with_line : SoFar → Line → Result SoFar What
with_line read (deed d) = if is_some read.end || not (length read.things == 0) then Err OutOfPlace
    else Ok (record read { deeds = read.deeds ++ d ∷ [] })
with_line read (thing t) = if is_some read.end then Err OutOfPlace else Ok (record read { things = read.things ++ t ∷ [] })
with_line read (ended e) = if is_some read.end then Err OutOfPlace else Ok (record read { end = Some e })

abbrev pub with_text : SoFar → List ℕ → Result SoFar What
with_text read line =
    if list_any is_bad_byte line then Err BadBytes
    else option_map_or (with_line read) (line_of (length read.deeds) line) (Err NoReportLine)

-- a report, or the least line at which a text is none
pub data Told : Type 0 where
  report : List Deed → List Thing → Ended → Told
  wrong : Fault → Told

abbrev pub wrong_at : ℕ → What → Told
wrong_at k what = wrong (record { line = k; what = what })

-- nothing follows the last line end, and the last line was read
abbrev pub told_at_end : SoFar → ℕ → List ℕ → Told
told_at_end read k rest =
    if not (length rest == 0) then wrong_at k NoLineEnd
    else option_map_or (report read.deeds read.things) read.end (wrong_at k NoEndLine)

abbrev pub told_by : (SoFar → Told) → ℕ → Result SoFar What → Told
told_by later k (Ok read) = later read
told_by later k (Err what) = wrong_at k what

-- what a text is whose parts from number k on are these, after what was read
abbrev pub told_from : SoFar → ℕ → List (List ℕ) → Told
told_from read k [] = wrong_at k NoEndLine
told_from read k (rest ∷ []) = told_at_end read k rest
told_from read k (line ∷ next ∷ more) = told_by (λ later. told_from later (k + 1) (next ∷ more)) k (with_text read line)

-- what a text is
abbrev pub told : List ℕ → Told
told text = if nat_lt 33554432 (length text) then wrong_at 0 TooLong else told_from nothing_yet 1 (parts_of text)

-- the fault is the text's, or there was no memory
abbrev pub IsFaultOf : List ℕ → Fault → Type 0
IsFaultOf text fault = (fault.what ≡ Memory) ⊎ (told text ≡ wrong fault)
