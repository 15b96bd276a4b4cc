use Rattle.std.proofs.Common.{◌≢◌, List, slice_get, slice_set, Some, refl, sym, ap, subst, ◌∙◌}
use Rattle.cml_room.specs.declared.place.Place.TheVariants as place
use Rattle.cml_room.specs.declared.notice.Notice.TheVariants.{Nothing}
use Rattle.cml_room.specs.{Notice, Place, Waiter, IsKept, noted_in, quieted, SeatsShown}
use Rattle.cml_room.proofs.ListingLemmas.{listed_remove, kept_noticed, no_wait, waits_so, waits_at}
use Rattle.cml_room.proofs.seats.Seats.quiet.Goals as goal

pub returns-in_default-clause-places : goal.returns-in_default-clause-places
returns-in_default-clause-places c =
    no_wait quieted c.args.self.now.places c.args.number c.requires
    (subst (λ (v : SeatsShown). (waiter : Waiter) → slice_get v.places c.args.number ≢ Some (place.Waiting waiter))
    c.self.view_is c.in_default.ensures) refl refl

pub returns-in_default-queue_for-clause-places : goal.returns-in_default-queue_for-clause-places
returns-in_default-queue_for-clause-places c =
    waits_so quieted c.args.self.now.places c.args.number c.in-Some.waiter
    (ap (λ (v : SeatsShown). slice_get v.places c.args.number) (sym c.self.view_is) ∙ c.in-Some.ensures)
    (ap (λ (n : Notice). place.Waiting (record c.in-Some.waiter { notice = n })) (sym c.in_default-queue_for.ensures))

pub invariant_of-self : goal.invariant_of-self
invariant_of-self c =
    let was = c.in-Some.ensures in
    subst (λ (l : List Place). IsKept l c.self.inside.free c.self.inside.parked c.self.inside.rows c.remove.new.self) (sym c.set.ensures)
    (kept_noticed c.args.number c.in-Some.waiter Nothing was c.self.invariant
    (listed_remove c.self.inside.due c.remove.new.self noted_in c.self.inside.places c.in-Some-queue_for.queue c.args.number
    (place.Waiting c.in-Some.waiter) _ was
    c.self.invariant.in_due c.in-Some-queue_for.ensures (λ r. refl) c.remove.ensures.gone c.remove.ensures.kept c.remove.ensures.others)
    c.remove.ensures.count c.remove.ensures.bound c.remove.ensures.first)

pub returns-clause-places : goal.returns-clause-places
returns-clause-places c =
    let found = ap (λ (v : SeatsShown). slice_get v.places c.args.number) (sym c.self.view_is) ∙ c.in-Some.ensures in
    c.set.ensures ∙ (ap (λ (v : SeatsShown). slice_set v.places c.args.number (place.Waiting (record c.in-Some.waiter
    { notice = Nothing }))) c.self.view_is
    ∙ ap (λ (p : Place). slice_set c.args.self.now.places c.args.number (quieted p))
    (sym (waits_at c.args.self.now.places c.args.number c.in-Some.waiter found)))
