use Rattle.cml_report.specs.{is_laid}
use Rattle.cml_report.proofs.LineLemmas.{AreCounted}
use Rattle.cml_report.proofs.plan.count_laid.Given as goal

abbrev pub invariant-loop-step : goal.invariant-loop-step
invariant-loop-step l = AreCounted (is_laid l.script) l.script.steps l.step-index l.laid
