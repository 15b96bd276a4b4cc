use Rattle.std.proofs.Common.{◌≡◌}
use Rattle.cml_log.specs.{least}
use Rattle.cml_log.proofs.PlainLogLemmas.{least_listed}
use Rattle.cml_log.proofs.places.least_place.Given as goal

abbrev pub invariant-loop-place : goal.invariant-loop-place
invariant-loop-place l = least_listed l.least l.place-iterator ≡ least l.end l.places.slots
