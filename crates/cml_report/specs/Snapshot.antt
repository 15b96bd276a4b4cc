-- The inside of a report: what it tells of.
use Rattle.std.specs.Prelude.{◌≡◌}
use Rattle.cml_board.specs.{no_entries, Lawful}
use Rattle.cml_grammar.specs.{Lines}
use Rattle.cml_report.specs.Schedule.{History}
use Rattle.cml_report.specs.Report.{Tallied}
use Rattle.cml_report.specs.Audit.{IsOfScript}
use Rattle.cml_report.specs.Follower.{Progress, history_of}

-- a script, what was performed of it, newest first, and what went by lanes and feeds
pub record Told : Type 0 where
  pub script : Lines
  pub history : History
  pub tally : Tallied

-- all of the history was followed; it is lawful, and the script's; and nothing of it was cut away
pub record IsTold (progress : Progress) (past history : History) : Type 0 where
  pub followed : history_of progress ≡ history
  pub own : IsOfScript progress.script history
  pub lawful : Lawful history
  pub whole : past ≡ no_entries
