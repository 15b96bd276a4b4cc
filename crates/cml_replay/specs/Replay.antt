-- What a replay reads and writes, by how it ends.
use Rattle.std.specs.Prelude.{ℕ, ◌≡◌, ◌⊎◌, List, Option, Some, ⊤}
use Rattle.std.specs.Io.KnownBytes.{Appends, Keeps}
use Rattle.cml_grammar.specs.{Fault, Lines, IsScript, fault_of, at_line, first_ring}
use Rattle.cml_grammar.specs.declared.fault.What.TheVariants.{NeedsRun}
use Rattle.cml_report.specs.declared.form.Form.{Form}
use Rattle.cml_report.specs.declared.form.Form.TheVariants.{Report, Journal}
use Rattle.cml_report.specs.declared.stop.Stop.{Stop}
use Rattle.cml_report.specs.declared.stop.Stop.TheVariants as stop
use Rattle.cml_report.specs.declared.ending.Ending.{Ending}
use Rattle.cml_report.specs.declared.ending.Ending.TheVariants as ending
use Rattle.cml_replay.specs.Play.{IsPlayedAs}
use Rattle.cml_report.specs.Reading.{AreAll, IsFaulty}

-- the bytes are a script without rings, and this text is what was played of it in this form
pub record IsPlayedTextAs (form : Form) (limit : ℕ) (stop : Stop) (text bytes : List ℕ) : Type 0 where
  pub script : Lines
  pub says : IsScript bytes script
  pub played : IsPlayedAs form script limit stop text

-- the same, and the text is its report
abbrev pub IsPlayedText : ℕ → List ℕ → Stop → List ℕ → Type 0
IsPlayedText limit bytes stop text = IsPlayedTextAs Report limit stop text bytes

-- the text is a script, and its first lane or feed is what this fault tells
pub record IsTextForRun (fault : Fault) (text : List ℕ) : Type 0 where
  pub script : Lines
  pub says : IsScript text script
  pub line : ℕ
  pub first : first_ring script ≡ Some line
  pub tells : fault ≡ at_line line NeedsRun

-- the reader's bytes were played so, and the text was written
abbrev pub IsReplayed : Form → ℕ → Option (List ℕ) → Option (List ℕ) → Option (List ℕ) → Option (List ℕ) → Stop → Type 0
IsReplayed form limit old new held holds stop = (text : List ℕ)
    × AreAll old new (IsPlayedTextAs form limit stop text) × Appends held holds text

-- the text has a fault, or it is a script that is not replayed
abbrev pub IsUnplayable : Option (List ℕ) → Option (List ℕ) → Fault → Type 0
IsUnplayable old new fault = IsFaulty old new fault ⊎ AreAll old new (IsTextForRun fault)

-- a replay that writes in this form
abbrev pub ReplaysAs : Form → ℕ → Option (List ℕ) → Option (List ℕ) → Option (List ℕ) → Option (List ℕ) → Ending → Type 0
ReplaysAs form limit old new held holds ending.Done = IsReplayed form limit old new held holds stop.Done
ReplaysAs form limit old new held holds ending.Stalled = IsReplayed form limit old new held holds stop.Stalled
ReplaysAs form limit old new held holds ending.Full = IsReplayed form limit old new held holds stop.Full
ReplaysAs form limit old new held holds (ending.Fault fault) = IsUnplayable old new fault × Keeps held holds
ReplaysAs form limit old new held holds ending.ReadFault = Keeps held holds
ReplaysAs form limit old new held holds ending.NoMemory = Keeps held holds
ReplaysAs form limit old new held holds ending.WriteFault = ⊤
ReplaysAs form limit old new held holds (ending.NotLawful at) = ⊥
ReplaysAs form limit old new held holds ending.Held = ⊥

-- it writes the report
abbrev pub Replays : ℕ → Option (List ℕ) → Option (List ℕ) → Option (List ℕ) → Option (List ℕ) → Ending → Type 0
Replays limit old new held holds ended = ReplaysAs Report limit old new held holds ended

-- it writes the journal
abbrev pub ReplaysJournal : ℕ → Option (List ℕ) → Option (List ℕ) → Option (List ℕ) → Option (List ℕ) → Ending → Type 0
ReplaysJournal limit old new held holds ended = ReplaysAs Journal limit old new held holds ended

-- how a text ends that was not played: it has a fault, it is not replayed, or there was no memory
abbrev pub EndsUnplayedText : List ℕ → Ending → Type 0
EndsUnplayedText text (ending.Fault fault) = (fault_of text ≡ Some fault) ⊎ IsTextForRun fault text
EndsUnplayedText text ending.NoMemory = ⊤
EndsUnplayedText text _ = ⊥

-- how it ends where nothing was played
abbrev pub EndsUnplayed : Option (List ℕ) → Option (List ℕ) → Ending → Type 0
EndsUnplayed old new (ending.Fault fault) = IsUnplayable old new fault
EndsUnplayed old new ending.ReadFault = ⊤
EndsUnplayed old new ending.NoMemory = ⊤
EndsUnplayed old new _ = ⊥
