-- What is said of a history and its tally, said of a script that was performed.
use Rattle.std.specs.Prelude.{List, ℕ}
use Rattle.cml_report.specs.declared.ending.Ending.{Ending}
use Rattle.cml_report.specs.declared.form.Form.{Form}
use Rattle.cml_report.specs.declared.ran.Ran.{Ran}
use Rattle.cml_report.specs.Concluding.{IsRefused, IsTextOf, Leaves, MayEnd}
use Rattle.cml_report.specs.Written.{text_as}

abbrev pub ran_text : Form → Ran → List ℕ
ran_text form ran = text_as form ran.plan.now ran.board.now.history ran.tally.now ran.stop

abbrev pub RanLeaves : Ran → Type 0
RanLeaves ran = Leaves ran.plan.now ran.board.now.limit ran.board.now.history ran.tally.now ran.stop

abbrev pub RanMayEnd : Ran → Type 0
RanMayEnd ran = MayEnd ran.plan.now ran.board.now.limit ran.board.now.history ran.tally.now ran.stop

abbrev pub IsTextOfRan : Form → Ran → List ℕ → Type 0
IsTextOfRan form ran text = IsTextOf form ran.plan.now ran.board.now.limit ran.board.now.history ran.tally.now ran.stop text

abbrev pub IsRefusedRan : Ran → Ending → Type 0
IsRefusedRan ran ending = IsRefused ran.plan.now ran.board.now.limit ran.board.now.history ran.tally.now ran.stop ending
