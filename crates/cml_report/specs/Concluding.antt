-- What a run may leave, and what is told or refused of it.
use Rattle.std.specs.Prelude.{ℕ, ◌≡◌, ◌<◌, ◌≤◌, ◌⊎◌, List, length, reverse, Some, unwrap_or, ⊤}
use Rattle.cml_board.specs.{entries_in, Lawful, got_count, IsFirstUnlawful}
use Rattle.cml_grammar.specs.{Lines}
use Rattle.cml_report.specs.declared.form.Form.{Form}
use Rattle.cml_report.specs.declared.form.Form.TheVariants.{Report}
use Rattle.cml_report.specs.declared.stop.Stop.{Stop}
use Rattle.cml_report.specs.declared.stop.Stop.TheVariants as stop
use Rattle.cml_report.specs.declared.ending.Ending.{Ending}
use Rattle.cml_report.specs.declared.ending.Ending.TheVariants as ending
use Rattle.cml_report.specs.Schedule.{History, apart_count, feed_count, feed_at, declared_object}
use Rattle.cml_report.specs.Audit.{IsOfScript, IsFirstForeign}
use Rattle.cml_report.specs.Report.{Tallied, taken_by, unperformed}
use Rattle.cml_report.specs.Written.{text_as}
use Rattle.cml_report.specs.Left.{HasLeft, IsAllDone}
use Rattle.cml_report.specs.Stalling.{NobodyGoesOn}
use Rattle.cml_report.specs.Lanes.{AreSentInOrder}

-- what is left if a run ends like this. If it is done, nothing is left. If it is stalled or held, at least one step is left; if
-- stalled, no thread could go on. If it is full, the journal is at its limit, and something is left
abbrev pub Leaves : Lines → ℕ → History → Tallied → Stop → Type 0
Leaves script limit history tally stop.Done = IsAllDone script history tally
Leaves script limit history tally stop.Stalled = (0 < unperformed script history tally) × NobodyGoesOn script limit history tally
Leaves script limit history tally stop.Held = 0 < unperformed script history tally
Leaves script limit history tally stop.Full = (entries_in history ≡ limit) × HasLeft script history tally

-- of the feed with the name at this position exactly what its port received was taken
abbrev pub IsTakenAt : Lines → History → Tallied → ℕ → Type 0
IsTakenAt script history tally at = (feed object : ℕ) → feed_at script at ≡ Some feed → declared_object script history at ≡ Some object
    → taken_by script tally at ≡ unwrap_or (got_count history object) 0

-- the journal and the tally are those of a run that ends so: no more steps went by lanes and feeds than there are of such; there
-- is a count for each feed, and it is how many messages the feed's port received; and lanes moved what threads sent by them
pub record MayEnd (script : Lines) (limit : ℕ) (history : History) (tally : Tallied) (stop : Stop) : Type 0 where
  pub leaves : Leaves script limit history tally stop
  pub apart : tally.apart ≤ apart_count script
  pub counts : length tally.taken ≡ feed_count script
  pub taken : (at : ℕ) → at < length script.declarations → IsTakenAt script history tally at
  pub lanes : AreSentInOrder script tally.lanes history

-- the history is a lawful one of the script, within the limit: the declared objects, and then steps of its threads, each
-- thread's in order, and what lanes and feeds moved; it may end so, with what went by lanes and feeds; and this is its text in
-- this form
pub record IsTextOf (form : Form) (script : Lines) (limit : ℕ) (history : History) (tally : Tallied)
    (stop : Stop) (text : List ℕ) : Type 0 where
  pub lawful : Lawful history
  pub room : entries_in history ≤ limit
  pub own : IsOfScript script history
  pub ends : MayEnd script limit history tally stop
  pub written : text ≡ text_as form script history tally stop

-- the same, and the text is its report
abbrev pub IsReportOf : Lines → ℕ → History → Tallied → Stop → List ℕ → Type 0
IsReportOf script limit history tally stop text = IsTextOf Report script limit history tally stop text

-- what is not reported: what an audit refuses, there, and what may not end so, after all of its entries
abbrev pub IsRefused : Lines → ℕ → History → Tallied → Stop → Ending → Type 0
IsRefused script limit history tally stop ending.NoMemory = ⊤
IsRefused script limit history tally stop (ending.NotLawful at) =
    (IsFirstUnlawful (reverse history) at ⊎ IsFirstForeign script (reverse history) at)
    ⊎ ((at ≡ entries_in history) × (MayEnd script limit history tally stop → ⊥))
IsRefused script limit history tally stop _ = ⊥
