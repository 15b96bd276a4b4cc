use Rattle.std.proofs.Common.{◌≡◌, slice_get, Some}
use Rattle.cml_board.specs.{Waits}
use Rattle.cml_room.specs.Queues.{queue_of}
use Rattle.cml_room.specs.declared.place.Place.TheVariants.{Waiting}
use Rattle.cml_room.specs.{Waiter}
use Rattle.cml_room.proofs.WalkingLemmas.{Walked}
use Rattle.cml_room.proofs.waiting.queue_idle.Given as goal

abbrev pub invariant-loop : goal.invariant-loop
invariant-loop g l = Walked (queue_of l.queues l.queue) l.next l.counter
    (λ k. (waiter : Waiter) → slice_get l.seats.places k ≡ Some (Waiting waiter) → Waits l.board.history waiter.want)
