use Rattle.std.proofs.Common.{◌≡◌, ◌++◌, drop, string_bytes}
use Rattle.cml_grammar.specs.{names_of}
use Rattle.cml_report.specs.{object_lines_from}
use Rattle.cml_report.proofs.report.write_objects.Given as goal

abbrev pub invariant-loop-at : goal.invariant-loop-at
invariant-loop-at l =
    string_bytes l.report ++ object_lines_from l.snapshot.script l.snapshot.history l.snapshot.tally l.at
    (drop l.at (names_of l.snapshot.script))
    ≡ string_bytes l.fn.report ++ object_lines_from l.snapshot.script l.snapshot.history l.snapshot.tally 0 (names_of l.snapshot.script)
