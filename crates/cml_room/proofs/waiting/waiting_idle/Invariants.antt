use Rattle.std.proofs.Common.{◌≡◌, ◌<◌, ℕ, slice_get, Some}
use Rattle.cml_board.specs.{Waits}
use Rattle.cml_room.specs.declared.place.Place.TheVariants.{Waiting}
use Rattle.cml_room.specs.{Waiter, row_of}
use Rattle.cml_room.proofs.waiting.waiting_idle.Given as goal

abbrev pub invariant-loop-row : goal.invariant-loop-row
invariant-loop-row g l = (number : ℕ) (waiter : Waiter)
    → slice_get l.seats.places number ≡ Some (Waiting waiter) → row_of waiter.source < l.row
    → Waits l.board.history waiter.want
