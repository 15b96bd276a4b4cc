use Rattle.std.proofs.Common.{◌≡◌, min, take}
use Rattle.cml_threads.specs.{seats_in}
use Rattle.cml_threads.proofs.hall.settling.seats_of.Given as goal

abbrev pub invariant-loop-left : goal.invariant-loop-left
invariant-loop-left g l = l.seats ≡ min (seats_in (take l.left-index l.lefts.items)) 18446744073709551615
