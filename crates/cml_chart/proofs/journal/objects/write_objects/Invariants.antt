use Rattle.std.proofs.Common.{◌≡◌, ◌++◌, string_bytes}
use Rattle.cml_chart.specs.{told_below}
use Rattle.cml_chart.proofs.journal.objects.write_objects.Given as goal

abbrev pub invariant-loop-number : goal.invariant-loop-number
invariant-loop-number g l =
    (string_bytes l.report ≡ string_bytes l.fn.report ++ told_below g.M.Written.text l.board.history l.number)
    × (l.board.history ≡ l.fn.board.history)
