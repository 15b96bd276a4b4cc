use Rattle.std.proofs.Common.{◌≡◌, ◌≢◌, slice_get, Some}
use Rattle.cml_room.specs.Queues.{queue_of}
use Rattle.cml_room.specs.declared.place.Place.TheVariants.{Waiting}
use Rattle.cml_room.specs.{Waiter, row_of}
use Rattle.cml_room.proofs.WalkingLemmas.{Walked}
use Rattle.cml_room.proofs.waking.rouse_first.Given as goal

abbrev pub invariant-loop : goal.invariant-loop
invariant-loop l = (l.seats ≡ l.initial.seats)
    × Walked (queue_of l.seats.rows (row_of l.source)) l.next l.counter
    (λ k. (waiter : Waiter) → slice_get l.seats.places k ≡ Some (Waiting waiter) → waiter.want ≢ l.want)
