use Rattle.std.proofs.Common.{◌≡◌, ◌++◌, drop, string_bytes}
use Rattle.cml_chart.specs.{rows}
use Rattle.cml_chart.proofs.journal.rows.write_rows.Given as goal

abbrev pub invariant-loop-at : goal.invariant-loop-at
invariant-loop-at g l =
    (string_bytes l.report ++ rows g.M.Written.text l.board.history l.at (drop l.at l.entries)
    ≡ string_bytes l.fn.report ++ rows g.M.Written.text l.board.history 0 l.entries) × (l.board.history ≡ l.fn.board.history)
