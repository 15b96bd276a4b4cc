use Rattle.std.proofs.Common.{◌≡◌, ◌+◌, ◌++◌, drop, map}
use Rattle.cml_chart.specs.{shown_act, names_of, joined, shown_row, unknown_from}
use Rattle.cml_chart.proofs.chart.rows_of.Given as goal

abbrev pub invariant-loop-at : goal.invariant-loop-at
invariant-loop-at l =
    (map shown_row l.rows.items ++ map (joined (names_of l.names.keys) l.actors) (map shown_act (drop l.at l.acts))
    ≡ map (joined (names_of l.names.keys) l.actors) (map shown_act l.acts))
    × (unknown_from (names_of l.names.keys) l.actors (l.at + 1) (map shown_act (drop l.at l.acts))
    ≡ unknown_from (names_of l.names.keys) l.actors 1 (map shown_act l.acts))
