use Rattle.cml_report.specs.{is_apart}
use Rattle.cml_report.proofs.LineLemmas.{AreCounted}
use Rattle.cml_report.proofs.plan.count_apart.Given as goal

abbrev pub invariant-loop-step : goal.invariant-loop-step
invariant-loop-step l = AreCounted (is_apart l.script) l.script.steps l.step-index l.apart
