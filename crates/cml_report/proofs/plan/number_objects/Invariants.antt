use Rattle.cml_report.specs.{is_object}
use Rattle.cml_report.proofs.LineLemmas.{AreNumbered}
use Rattle.cml_report.proofs.plan.number_objects.Given as goal

abbrev pub invariant-loop-declaration : goal.invariant-loop-declaration
invariant-loop-declaration l = AreNumbered (is_object l.script) l.script.declarations l.declaration-index l.objects l.numbers.items
