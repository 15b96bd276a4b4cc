use Rattle.std.proofs.Common.{◌≡◌, ◌+◌, ◌++◌, drop, map}
use Rattle.cml_chart.specs.{shown_object, names_of, taken_from, titles_of}
use Rattle.cml_chart.proofs.chart.add_objects.Given as goal

abbrev pub invariant-loop-at : goal.invariant-loop-at
invariant-loop-at l =
    (names_of l.names.keys ++ titles_of (map shown_object (drop l.at l.objects))
    ≡ names_of l.fn.names.keys ++ titles_of (map shown_object l.objects))
    × (taken_from (names_of l.names.keys) (l.first + l.at) (map shown_object (drop l.at l.objects))
    ≡ taken_from (names_of l.fn.names.keys) l.first (map shown_object l.objects))
