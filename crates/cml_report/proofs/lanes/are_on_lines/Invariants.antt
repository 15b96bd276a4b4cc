use Rattle.cml_board.specs.{before}
use Rattle.cml_report.specs.{AreOnLines}
use Rattle.cml_report.proofs.lanes.are_on_lines.Given as goal

abbrev pub invariant-loop-entry : goal.invariant-loop-entry
invariant-loop-entry l = AreOnLines l.plan l.lanes (before l.journal l.entry-index)
