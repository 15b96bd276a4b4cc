use Rattle.cml_report.specs.{is_object}
use Rattle.cml_report.proofs.LineLemmas.{AreCounted}
use Rattle.cml_report.proofs.plan.count_objects.Given as goal

abbrev pub invariant-loop-declaration : goal.invariant-loop-declaration
invariant-loop-declaration l = AreCounted (is_object l.script) l.script.declarations l.declaration-index l.objects
