use Rattle.std.proofs.Common.{◌≡◌, ◌++◌, drop}
use Rattle.cml_chart.specs.{rows_in}
use Rattle.cml_chart.proofs.marks.add_drawn.Given as goal

abbrev pub invariant-loop-row : goal.invariant-loop-row
invariant-loop-row l = rows_in l.drawn.items ++ drop l.row-index l.rows ≡ rows_in l.fn.drawn.items ++ l.rows
