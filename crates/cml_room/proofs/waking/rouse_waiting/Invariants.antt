use Rattle.std.proofs.Common.{ℕ, ◌<◌}
use Rattle.std.specs.Prelude.{⊤}
use Rattle.cml_room.specs.{Waiter, row_of, AreRoused, IsQuiet}
use Rattle.cml_room.proofs.waking.rouse_waiting.Given as goal

abbrev pub invariant-loop-row : goal.invariant-loop-row
invariant-loop-row l = AreRoused (λ waiter. ⊤) l.initial.seats.places l.seats.places
    × ((k : ℕ) (waiter : Waiter) → IsQuiet l.seats.places k waiter → row_of waiter.source < l.row → ⊥)
