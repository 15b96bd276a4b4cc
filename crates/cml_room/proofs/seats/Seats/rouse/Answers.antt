use Rattle.std.proofs.Common.{◌≢◌, List, slice_get, slice_set, Some, refl, sym, ap, subst, ◌∙◌}
use Rattle.cml_room.specs.declared.place.Place.TheVariants as place
use Rattle.cml_room.specs.declared.notice.Notice.TheVariants.{Due}
use Rattle.cml_room.specs.{Notice, Place, Waiter, IsKept, noted_as, noted_in, roused, roused_notice, SeatsShown}
use Rattle.cml_room.proofs.ListingLemmas.{listed_push, kept_noticed, no_wait, waits_so, waits_at, roused_so}
use Rattle.cml_room.proofs.seats.Seats.rouse.Goals as goal

pub returns-in_default-clause-places : goal.returns-in_default-clause-places
returns-in_default-clause-places c =
    no_wait roused c.args.self.now.places c.args.number c.requires
    (subst (λ (v : SeatsShown). (waiter : Waiter) → slice_get v.places c.args.number ≢ Some (place.Waiting waiter))
    c.self.view_is c.in_default.ensures) refl refl

pub returns-in_default-notice-clause-places : goal.returns-in_default-notice-clause-places
returns-in_default-notice-clause-places c =
    waits_so roused c.args.self.now.places c.args.number c.in-Some.waiter
    (ap (λ (v : SeatsShown). slice_get v.places c.args.number) (sym c.self.view_is) ∙ c.in-Some.ensures)
    (ap (λ (n : Notice). place.Waiting (record c.in-Some.waiter { notice = n }))
    (roused_so c.in-Some.waiter.notice c.in_default-notice.not-Nothing))

pub invariant_of-self : goal.invariant_of-self
invariant_of-self c =
    let was = c.in-Some.ensures in
    subst (λ (l : List Place). IsKept l c.self.inside.free c.self.inside.parked c.self.inside.rows c.push.new.self) (sym c.set.ensures)
    (kept_noticed c.args.number c.in-Some.waiter Due was c.self.invariant
    (listed_push c.self.inside.due c.push.new.self noted_in c.self.inside.places 0 c.args.number
    (place.Waiting c.in-Some.waiter) _ was c.self.invariant.in_due
    (λ r. ap (λ n. noted_as n r) c.in-Nothing.is) (λ r. refl) c.push.ensures.here c.push.ensures.others)
    c.push.ensures.count c.push.ensures.bound c.push.ensures.first)

pub returns-clause-places : goal.returns-clause-places
returns-clause-places c =
    let found = ap (λ (v : SeatsShown). slice_get v.places c.args.number) (sym c.self.view_is) ∙ c.in-Some.ensures in
    c.set.ensures ∙ (ap (λ (v : SeatsShown). slice_set v.places c.args.number (place.Waiting (record c.in-Some.waiter { notice = Due })))
    c.self.view_is
    ∙ (ap (λ (n : Notice). slice_set c.args.self.now.places c.args.number
    (place.Waiting (record c.in-Some.waiter { notice = roused_notice n }))) (sym c.in-Nothing.is)
    ∙ ap (λ (p : Place). slice_set c.args.self.now.places c.args.number (roused p))
    (sym (waits_at c.args.self.now.places c.args.number c.in-Some.waiter found))))
