use Rattle.std.proofs.Common.{◌≡◌, ◌≤◌, ◌+◌, length}
use Rattle.cml_grammar.specs.{parts_of}
use Rattle.cml_chart.specs.{told, told_from, so_far, line_count}
use Rattle.cml_chart.proofs.report.reading.read_report.Given as goal

abbrev pub invariant-loop-line : goal.invariant-loop-line
invariant-loop-line l =
    (told_from (so_far l.reading) l.number (parts_of l.rest) ≡ told l.text)
    × (l.number + length l.rest ≤ length l.text + 1)
    × (line_count l.reading + length l.rest ≤ length l.text)

abbrev pub decreases-loop-line : goal.decreases-loop-line
decreases-loop-line l = length l.rest
