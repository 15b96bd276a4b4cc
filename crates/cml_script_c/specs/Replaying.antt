-- What a replay returns to a caller in C.
use Rattle.std.specs.Prelude.{ℕ, ◌≡◌, ◌≤◌, ◌<◌, List, [], ◌++◌, length, drop}
use Rattle.cml_report.specs.{Ending, status}
use Rattle.cml_replay.specs.{IsPlayedText, EndsUnplayedText}
use Rattle.cml_report.specs.declared.ending.Ending.TheVariants as ending
use Rattle.cml_report.specs.declared.stop.Stop.TheVariants as stop
use Rattle.cml_script_c.specs.declared.SeryugoEnd.{SeryugoEnd}

abbrev pub line_of : Ending → ℕ
line_of (ending.Fault fault) = fault.line
line_of _ = 0

-- this is the script's report, and it ended like this: what was not played has no report
abbrev pub IsReplay : ℕ → List ℕ → List ℕ → Ending → Type 0
IsReplay limit script report ending.Done = IsPlayedText limit script stop.Done report
IsReplay limit script report ending.Stalled = IsPlayedText limit script stop.Stalled report
IsReplay limit script report ending.Full = IsPlayedText limit script stop.Full report
IsReplay limit script report unplayed = EndsUnplayedText script unplayed × (report ≡ [])

-- this is the script's report, and this says how it ended
pub record Comes (limit : ℕ) (script report : List ℕ) (end : SeryugoEnd) : Type 0 where
  pub ending : Ending
  pub replay : IsReplay limit script report ending
  pub status : end.status ≡ status ending
  pub line : end.line ≡ line_of ending
  pub length : end.length ≡ length report

-- the report is at the buffer's front, and what is after it is as it was
abbrev pub Fills : ℕ → List ℕ → List ℕ → List ℕ → SeryugoEnd → Type 0
Fills limit script old new end =
    (report : List ℕ) × Comes limit script report end × (length report ≤ length old) × (new ≡ report ++ drop (length report) old)

-- the report is longer than the buffer
abbrev pub HasNoRoom : ℕ → List ℕ → List ℕ → SeryugoEnd → Type 0
HasNoRoom limit script old end =
    (report : List ℕ) × Comes limit script report end × (length old < length report)
