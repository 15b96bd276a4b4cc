use Rattle.std.proofs.Common.{◌≡◌, ◌+◌, ◌≤◌, length, drop, map}
use Rattle.cml_chart.specs.{shown_object, shown_made, strange_thing}
use Rattle.cml_chart.proofs.following.compare.Given as goal

abbrev pub invariant-loop-at : goal.invariant-loop-at
invariant-loop-at l =
    (strange_thing (l.first + l.at) (map shown_object (drop l.at l.objects)) (map shown_made (drop l.at l.made))
    ≡ strange_thing l.first (map shown_object l.objects) (map shown_made l.made))
    × (l.at ≤ length l.made)
