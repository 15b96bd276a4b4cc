use Rattle.std.proofs.Common.{◌≡◌, ◌++◌, drop, map}
use Rattle.std.specs.List.{filter_map}
use Rattle.cml_grammar.specs.{source_of, Step}
use Rattle.cml_chart.specs.{texts, own_in, own_steps}
use Rattle.cml_chart.proofs.plan.own_steps.Given as goal

abbrev pub invariant-loop-step : goal.invariant-loop-step
invariant-loop-step l =
    texts l.own.items ++ filter_map (own_in l.script l.name) (map (λ (s : Step). source_of s.line) (drop l.step-index l.steps))
    ≡ own_steps l.script l.name
