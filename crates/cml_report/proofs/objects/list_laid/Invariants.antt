use Rattle.cml_report.proofs.ObjectLemmas.{AreLaidSoFar}
use Rattle.cml_report.proofs.objects.list_laid.Given as goal

abbrev pub invariant-loop-lane : goal.invariant-loop-lane
invariant-loop-lane l = AreLaidSoFar l.plan l.lane-index l.laid.items
