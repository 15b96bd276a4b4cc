-- A whole script, performed and reported.
use Rattle.std.specs.Prelude.{ℕ, ◌≡◌, List}
use Rattle.cml_grammar.specs.{Lines}
use Rattle.cml_report.specs.declared.form.Form.{Form}
use Rattle.cml_report.specs.declared.form.Form.TheVariants.{Report}
use Rattle.cml_report.specs.declared.stop.Stop.{Stop}
use Rattle.cml_report.specs.Schedule.{History, Schedule}
use Rattle.cml_report.specs.Report.{no_rings}
use Rattle.cml_report.specs.Written.{text_as}

-- one history is that of the script, which has no rings, under this limit, it ends so, and this is its text in this form
pub record IsPlayedAs (form : Form) (script : Lines) (limit : ℕ) (stop : Stop) (text : List ℕ) : Type 0 where
  pub history : History
  pub scheduled : Schedule script limit history stop
  pub written : text ≡ text_as form script history no_rings stop

-- the same, and the text is its report
abbrev pub IsPlayed : Lines → ℕ → Stop → List ℕ → Type 0
IsPlayed script limit stop text = IsPlayedAs Report script limit stop text
