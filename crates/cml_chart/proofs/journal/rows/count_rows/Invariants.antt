use Rattle.std.proofs.Common.{◌≡◌, ◌+◌, ◌≤◌, drop}
use Rattle.cml_chart.specs.{row_count}
use Rattle.cml_chart.proofs.journal.rows.count_rows.Given as goal

abbrev pub invariant-loop-entry : goal.invariant-loop-entry
invariant-loop-entry g l =
    (l.count + row_count (drop l.entry-index l.entries) ≡ row_count l.entries) × (l.count ≤ l.entry-index)
