use Rattle.std.proofs.Common.{◌≡◌, take}
use Rattle.cml_report.specs.{is_object, positions_where}
use Rattle.cml_report.proofs.objects.list_places.Given as goal

abbrev pub invariant-loop-at : goal.invariant-loop-at
invariant-loop-at l = l.places.items ≡ positions_where (is_object l.script) 0 (take l.at l.script.declarations)
