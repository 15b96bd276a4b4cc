use Rattle.std.proofs.Common.{◌≡◌, drop, map}
use Rattle.cml_grammar.specs.{source_of, Lane}
use Rattle.cml_chart.specs.{names_of, each_once, target_in, targets_in}
use Rattle.cml_chart.proofs.plan.add_targets.Given as goal

abbrev pub invariant-loop-lane : goal.invariant-loop-lane
invariant-loop-lane l =
    each_once (names_of l.targets.keys) (map target_in (map (λ (x : Lane). source_of x.line) (drop l.lane-index l.lanes)))
    ≡ targets_in l.script
