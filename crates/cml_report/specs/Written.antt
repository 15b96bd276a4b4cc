-- What is written of a script and its history: its report, or its journal's text.
use Rattle.std.specs.Prelude.{ℕ, List, reverse, ◌≡◌, ◌⊎◌, Option}
use Rattle.cml_grammar.specs.{Lines}
use Rattle.cml_journal.specs.{script_word, text_of, piece_lines}
use Rattle.cml_report.specs.declared.form.Form.{Form}
use Rattle.cml_report.specs.declared.form.Form.TheVariants.{Report, Journal}
use Rattle.cml_report.specs.declared.stop.Stop.{Stop}
use Rattle.cml_report.specs.Schedule.{History}
use Rattle.cml_report.specs.Report.{Tallied, report}
use Rattle.std.specs.Io.KnownBytes.{Appends}
use Rattle.cml_report.specs.declared.ending.Ending.{Ending}
use Rattle.cml_report.specs.declared.ending.Ending.TheVariants as ending
use Rattle.cml_report.specs.Endings.{ending_of_stop}

-- the text of a journal that has all entries of a history, oldest first, in one piece; its messages are those of a script of
-- this version
abbrev pub journal_text : ℕ → History → List ℕ
journal_text version history = text_of (piece_lines version (script_word version) 0 (reverse history))

-- what is written in this form of a history that ended so
abbrev pub text_as : Form → Lines → History → Tallied → Stop → List ℕ
text_as Report script history tally stop = report script history tally stop
text_as Journal script history tally stop = journal_text script.version history

-- the text was written, or a write failed
abbrev pub Writes : Option (List ℕ) → Option (List ℕ) → Stop → List ℕ → Ending → Type 0
Writes held holds stop text ended = (ended ≡ ending.WriteFault) ⊎ ((ended ≡ ending_of_stop stop) × Appends held holds text)
