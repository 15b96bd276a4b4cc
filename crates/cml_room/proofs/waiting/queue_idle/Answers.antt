use Rattle.std.proofs.Common.{ap, ◌∙◌, arith}
use Rattle.std.specs.Option.{option_map}
use Rattle.std.proofs.lemmas.Option.{slice_get-map}
use Rattle.cml_room.specs.Queues.{queue_of}
use Rattle.cml_room.specs.{state_by}
use Rattle.cml_room.specs.declared.state.State.TheVariants.{Parked}
use Rattle.cml_room.proofs.IdlingLemmas.{idle_state}
use Rattle.cml_room.proofs.ListingLemmas.{behind}
use Rattle.cml_room.proofs.WalkingLemmas.{walk_stops, walk_ends, walk_at, walk_goes}
use Rattle.cml_room.proofs.waiting.queue_idle.Goals as goal

pub returns-in_default : goal.returns-in_default
returns-in_default g c = walk_stops c.loop.invariant c.in_default.is

pub returns-then-not-is_idle_at : goal.returns-then-not-is_idle_at
returns-then-not-is_idle_at g c = λ idle.
    let fact = c.if-not-is_idle_at.ensures in
    fact.2 (idle_state c.args.board.now.history c.args.seats.now.places c.in-Some.number fact.0 idle fact.1)

pub loop-preserved : goal.loop-preserved
loop-preserved g c =
    walk_goes c.loop.invariant c.in-Some.is
    (λ waiter found. c.if-not-is_idle_at.ensures (Parked waiter.want)
    (slice_get-map state_by c.args.seats.now.places c.in-Some.number ∙ ap (option_map state_by) found))
    (behind (queue_of c.args.queues.now c.args.queue) c.loop.counter c.in-Some.number c.after-next.result
    (walk_at c.loop.invariant c.in-Some.is) (c.after-next.ensures.next c.args.queue))

pub returns : goal.returns
returns g c = walk_ends c.loop.invariant (omega (arith, c.most-end.ensures.enough c.args.queue, c.loop-test.false))
