use Rattle.std.proofs.Common.{◌≡◌, length, slice_get, slice_set, get_or, refl, sym, ap, subst, ◌∙◌, arith}
use Rattle.std.proofs.lemmas.Option.{slice_get_within}
use Rattle.cml_room.specs.Queues.{queue_of, is_in}
use Rattle.cml_room.specs.declared.place.Place.TheVariants.{Free}
use Rattle.cml_room.specs.{row_of, roused, AreRoused, SeatsShown, OneEach}
use Rattle.cml_room.proofs.ListingLemmas.{in_row}
use Rattle.cml_room.proofs.WalkingLemmas.{walk_begins, walk_ends, walk_stops, walk_at, walk_goes}
use Rattle.cml_room.proofs.RisingLemmas.{none_each, set_each}
use Rattle.cml_room.proofs.RousingLemmas.{none_roused, one_roused, set_roused_mate}
use Rattle.cml_room.proofs.waking.rouse_first.Goals as goal

pub loop-init : goal.loop-init
loop-init c = (refl, walk_begins c.first_at-next.ensures.first)

pub returns-in_default-clause-roused : goal.returns-in_default-clause-roused
returns-in_default-clause-roused c =
    subst (λ (v : SeatsShown). AreRoused (λ waiter. waiter.want ≡ c.args.want) c.args.seats.now.places v.places) (sym c.loop.invariant.0)
    (none_roused _ c.args.seats.now.places)

pub returns-in_default-clause-first : goal.returns-in_default-clause-first
returns-in_default-clause-first c = λ number waiter quiet same source.
    let seen = walk_stops c.loop.invariant.1 c.in_default.is number
    (ap (λ (v : SeatsShown). is_in v.rows (row_of c.args.source) number) c.loop.invariant.0
    ∙ in_row c.args.seats.now.rows c.args.seats.now.places number waiter _ c.first_at-next.ensures.listed
    (ap (λ (v : SeatsShown). slice_get v.places number) (sym c.loop.invariant.0) ∙ quiet.here) (ap row_of source)) in
    absurd (seen waiter quiet.here same)

pub rouse-requires : goal.rouse-requires
rouse-requires c = slice_get_within _ _ _ c.if-wants.ensures.1

pub returns-then-wants-clause-roused : goal.returns-then-wants-clause-roused
returns-then-wants-clause-roused c =
    let one = one_roused (λ waiter. waiter.want ≡ c.args.want) c.loop.seats.places c.in-Some.number c.if-wants.ensures.0
    c.if-wants.ensures.1 c.if-wants.ensures.2 in
    subst (λ l. AreRoused (λ waiter. waiter.want ≡ c.args.want) c.args.seats.now.places l) (sym c.rouse.ensures.places)
    (subst (λ (v : SeatsShown). AreRoused (λ waiter. waiter.want ≡ c.args.want) v.places
    (slice_set c.loop.seats.places c.in-Some.number (roused (get_or c.loop.seats.places c.in-Some.number Free))))
    c.loop.invariant.0 one)

pub returns-then-wants-clause-first : goal.returns-then-wants-clause-first
returns-then-wants-clause-first c = λ number waiter quiet same source.
    set_roused_mate c.loop.seats.places c.rouse.new.self.places c.in-Some.number c.if-wants.ensures.0 c.args.want c.if-wants.ensures.1
    c.if-wants.ensures.2 c.rouse.ensures.places

pub loop-preserved : goal.loop-preserved
loop-preserved c = (
  c.loop.invariant.0,
  walk_goes c.loop.invariant.1 c.in-Some.is c.if-wants.ensures
      (c.after-next.ensures (row_of c.args.source) c.loop.counter (walk_at c.loop.invariant.1 c.in-Some.is)),
)

pub returns-clause-roused : goal.returns-clause-roused
returns-clause-roused c =
    subst (λ (v : SeatsShown). AreRoused (λ waiter. waiter.want ≡ c.args.want) c.args.seats.now.places v.places) (sym c.loop.invariant.0)
    (none_roused _ c.args.seats.now.places)

pub returns-clause-first : goal.returns-clause-first
returns-clause-first c = λ number waiter quiet same source.
    let seen = walk_ends c.loop.invariant.1
    (omega (
      arith,
      c.most-end.ensures (row_of c.args.source),
      ap (λ (v : SeatsShown). length (queue_of v.rows (row_of c.args.source))) c.loop.invariant.0,
      c.loop-test.false,
    )) number
    (ap (λ (v : SeatsShown). is_in v.rows (row_of c.args.source) number) c.loop.invariant.0
    ∙ in_row c.args.seats.now.rows c.args.seats.now.places number waiter _ c.first_at-next.ensures.listed
    (ap (λ (v : SeatsShown). slice_get v.places number) (sym c.loop.invariant.0) ∙ quiet.here) (ap row_of source)) in
    absurd (seen waiter quiet.here same)

pub returns-in_default-clause-one : goal.returns-in_default-clause-one
returns-in_default-clause-one c = none_each _ _ (ap (λ (v : SeatsShown). v.places) c.loop.invariant.0)

pub returns-then-wants-clause-one : goal.returns-then-wants-clause-one
returns-then-wants-clause-one c =
    subst (λ (v : SeatsShown). OneEach v.places c.rouse.new.self.places) c.loop.invariant.0
    (set_each c.loop.seats.places c.rouse.new.self.places c.in-Some.number _ c.rouse.ensures.places)

pub returns-clause-one : goal.returns-clause-one
returns-clause-one c = none_each _ _ (ap (λ (v : SeatsShown). v.places) c.loop.invariant.0)
