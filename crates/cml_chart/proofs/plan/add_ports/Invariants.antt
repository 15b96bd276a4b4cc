use Rattle.std.proofs.Common.{◌≡◌, ◌++◌, drop, map}
use Rattle.std.specs.List.{filter_map}
use Rattle.cml_grammar.specs.{Step, source_of, SourceLine}
use Rattle.cml_chart.specs.{port_in, shown_made}
use Rattle.cml_chart.proofs.plan.add_ports.Given as goal

abbrev pub invariant-loop-step : goal.invariant-loop-step
invariant-loop-step l =
    map shown_made l.objects.items ++ filter_map (λ (line : SourceLine). port_in line.words)
    (map (λ (s : Step). source_of s.line) (drop l.step-index l.steps))
    ≡ map shown_made l.fn.objects.items ++ filter_map (λ (line : SourceLine). port_in line.words) l.script.steps
