use Rattle.std.proofs.Common.{◌≡◌, ◌++◌, drop, string_bytes}
use Rattle.cml_chart.specs.{lost_copies}
use Rattle.cml_chart.proofs.journal.rows.write_lost_copies.Given as goal

abbrev pub invariant-loop-at : goal.invariant-loop-at
invariant-loop-at g l =
    string_bytes l.report ++ lost_copies l.at (drop l.at l.entries) ≡ string_bytes l.fn.report ++ lost_copies 0 l.entries
