-- What a run reads and writes, by how it ends.
use Rattle.std.specs.Prelude.{ℕ, ◌≡◌, ◌+◌, ◌⊎◌, List, Option, ⊤}
use Rattle.std.specs.Io.KnownBytes.{Appends, Keeps}
use Rattle.cml_board.specs.{no_entries, entries_in}
use Rattle.cml_board.specs.Shown.{Shown}
use Rattle.cml_grammar.specs.{Lines, IsScript}
use Rattle.cml_report.specs.declared.form.Form.{Form}
use Rattle.cml_report.specs.declared.form.Form.TheVariants.{Report, Journal}
use Rattle.cml_report.specs.declared.stop.Stop.{Stop}
use Rattle.cml_report.specs.declared.stop.Stop.TheVariants as stop
use Rattle.cml_report.specs.declared.ending.Ending.{Ending}
use Rattle.cml_report.specs.declared.ending.Ending.TheVariants as ending
use Rattle.cml_report.specs.Schedule.{History}
use Rattle.cml_report.specs.Report.{Tallied}
use Rattle.cml_report.specs.Reading.{AreAll, IsFaulty}
use Rattle.cml_report.specs.Concluding.{IsTextOf, IsRefused}

-- the bytes are a script, and this is the text of one of its histories
pub record IsRunText (form : Form) (limit : ℕ) (stop : Stop) (text bytes : List ℕ) : Type 0 where
  pub script : Lines
  pub says : IsScript bytes script
  pub history : History
  pub tally : Tallied
  pub told : IsTextOf form script limit history tally stop text

-- the bytes are a script
abbrev pub AreScript : List ℕ → Type 0
AreScript bytes = (script : Lines) × IsScript bytes script

-- the reader's bytes were run so, and the text was written
abbrev pub IsRun : Form → ℕ → Option (List ℕ) → Option (List ℕ) → Option (List ℕ) → Option (List ℕ) → Stop → Type 0
IsRun form limit old new held holds stop = (text : List ℕ) × AreAll old new (IsRunText form limit stop text) × Appends held holds text

-- a run that writes in this form
abbrev pub RunsAs : Form → ℕ → Option (List ℕ) → Option (List ℕ) → Option (List ℕ) → Option (List ℕ) → Ending → Type 0
RunsAs form limit old new held holds ending.Done = IsRun form limit old new held holds stop.Done
RunsAs form limit old new held holds ending.Stalled = IsRun form limit old new held holds stop.Stalled
RunsAs form limit old new held holds ending.Full = IsRun form limit old new held holds stop.Full
RunsAs form limit old new held holds ending.Held = IsRun form limit old new held holds stop.Held
RunsAs form limit old new held holds (ending.Fault fault) = IsFaulty old new fault × Keeps held holds
RunsAs form limit old new held holds (ending.NotLawful at) = AreAll old new AreScript × Keeps held holds
RunsAs form limit old new held holds ending.WriteFault = ⊤
RunsAs form limit old new held holds _ = Keeps held holds

-- it writes the report
abbrev pub Runs : ℕ → Option (List ℕ) → Option (List ℕ) → Option (List ℕ) → Option (List ℕ) → Ending → Type 0
Runs limit old new held holds ended = RunsAs Report limit old new held holds ended

-- it writes the journal
abbrev pub RunsJournal : ℕ → Option (List ℕ) → Option (List ℕ) → Option (List ℕ) → Option (List ℕ) → Ending → Type 0
RunsJournal limit old new held holds ended = RunsAs Journal limit old new held holds ended

-- how it ends if nothing is written
abbrev pub EndsUntold : Option (List ℕ) → Option (List ℕ) → Ending → Type 0
EndsUntold old new (ending.Fault fault) = IsFaulty old new fault
EndsUntold old new ending.ReadFault = ⊤
EndsUntold old new ending.NoMemory = ⊤
EndsUntold old new (ending.NotLawful at) = AreAll old new AreScript
EndsUntold old new _ = ⊥

-- the board is one that a run under this limit leaves: it has this limit, and its journal was never cut
pub record IsOfRun (limit : ℕ) (board : Shown (List ℕ)) : Type 0 where
  pub under : board.limit ≡ limit
  pub whole : board.past ≡ no_entries

-- what is not reported of a board: what is refused of its history, and, after all of its entries, a board that no run leaves
abbrev pub IsUntold : Lines → ℕ → Shown (List ℕ) → Tallied → Stop → Ending → Type 0
IsUntold script limit board tally stop ending.NoMemory = ⊤
IsUntold script limit board tally stop (ending.NotLawful at) =
    IsRefused script limit board.history tally stop (ending.NotLawful at)
    ⊎ ((at + entries_in board.past ≡ entries_in board.history) × (IsOfRun limit board → ⊥))
IsUntold script limit board tally stop _ = ⊥

-- how it ends where the switchboard is not settled
abbrev pub IsUnsettled : Ending → Type 0
IsUnsettled ending.NoMemory = ⊤
IsUnsettled (ending.NotLawful at) = ⊤
IsUnsettled _ = ⊥
