use Rattle.std.proofs.Common.{◌≡◌, ℕ, ◌+◌, ◌-◌, List, get_or, slice_get, slice_set, Some, refl, sym, ap, subst, ◌∙◌, arith}
use Rattle.cml_room.specs.declared.place.Place.TheVariants as place
use Rattle.std.proofs.lemmas.Option.{slice_get-get_or}
use Rattle.cml_board.proofs.ListLemmas.{slice_get-set_same}
use Rattle.cml_room.specs.{Place, IsKept, noted_as, row_in, noted_in, quieted, SeatsShown}
use Rattle.std.specs.Prelude.{◌==◌}
use Rattle.std.proofs.lemmas.List.{set-set}
use Rattle.cml_room.proofs.ListingLemmas.{set_here, quieted_nothing, freed_waiter, listed_same, listed_remove, freed_none}
use Rattle.cml_room.proofs.ListingLemmas.{kept_set, kept_within, one_waits}
use Rattle.cml_room.proofs.seats.Seats.set_free.Goals.{In-Some}
use Rattle.cml_room.proofs.seats.Seats.set_free.Goals as goal

-- once the seat isn't due, the code reads this of it
set : (c : In-Some) → c.self.inside.places
    ≡ slice_set c.args.self.now.places c.args.number (quieted (get_or c.args.self.now.places c.args.number place.Free))
set c = ap (λ (v : SeatsShown). v.places) c.self.view_is ∙ c.quiet.ensures.places

was : (c : In-Some) → slice_get c.self.inside.places c.args.number ≡ Some (place.Waiting c.in-Some.waiter)
was c = c.in-Some.ensures

quiet : (c : In-Some) → quieted (get_or c.args.self.now.places c.args.number place.Free) ≡ place.Waiting c.in-Some.waiter
quiet c = set_here c.args.self.now.places c.args.number _ _ (sym (ap (λ l. slice_get l c.args.number) (set c)) ∙ was c)

pub overflow_add-self : goal.overflow_add-self
overflow_add-self c = omega (arith, kept_within c.self.invariant, c.self.invariant.few)

pub invariant_of-self : goal.invariant_of-self
invariant_of-self c =
    let at = (goal.at.invariant_of-self c).In-Some in
    let nothing = quieted_nothing (get_or c.args.self.now.places c.args.number place.Free) c.in-Some.waiter (quiet at) in
    subst (λ (l : List Place). IsKept l (c.self.inside.free + 1) (c.self.inside.parked - 1) c.remove.new.self c.self.inside.due) (sym
    c.set.ensures)
    (kept_set c.args.number place.Free (was at) c.self.invariant (omega arith)
    (omega (arith, one_waits c.args.number c.in-Some.waiter c.self.invariant (was at)))
    (listed_remove c.self.inside.rows c.remove.new.self row_in c.self.inside.places c.row_of.result c.args.number
    (place.Waiting c.in-Some.waiter) place.Free (was at) c.self.invariant.in_rows
    (λ r. ap (λ (row : ℕ). r == row) (sym c.row_of.ensures.row))
    (λ r. refl) c.remove.ensures.gone c.remove.ensures.kept c.remove.ensures.others)
    (listed_same c.self.inside.due noted_in c.self.inside.places c.args.number (place.Waiting c.in-Some.waiter) place.Free (was at)
    c.self.invariant.in_due (λ r. sym (ap (λ n. noted_as n r) nothing)))
    c.remove.ensures.count refl c.remove.ensures.bound refl c.remove.ensures.first refl refl)

pub returns-in-Some-clause-places : goal.returns-in-Some-clause-places
returns-in-Some-clause-places c =
    let at = (goal.at.returns-in-Some-clause-places c).In-Some in
    let old = get_or c.args.self.now.places c.args.number place.Free in
    c.set.ensures ∙ (ap (λ l. slice_set l c.args.number place.Free) (set at) ∙ (set-set c.args.self.now.places c.args.number (quieted
    old) place.Free
    ∙ ap (slice_set c.args.self.now.places c.args.number) (sym (freed_waiter old c.in-Some.waiter (quiet at)))))

pub overflow_sub-self : goal.overflow_sub-self
overflow_sub-self c =
    one_waits c.args.number c.in-Some.waiter c.self.invariant (was (goal.at.overflow_sub-self c).In-Some)

pub returns-in_default-clause-places : goal.returns-in_default-clause-places
returns-in_default-clause-places c =
    let old = get_or c.args.self.now.places c.args.number place.Free in
    c.quiet.ensures.places
    ∙ ap (slice_set c.args.self.now.places c.args.number)
    (freed_none old (λ waiter is. c.in_default.ensures waiter
    (ap (λ (l : List Place). slice_get l c.args.number)
    (ap (λ (v : SeatsShown). v.places) c.self.view_is ∙ c.quiet.ensures.places)
    ∙ (slice_get-set_same c.args.self.now.places c.args.number old (quieted old)
    (slice_get-get_or c.args.self.now.places c.args.number place.Free c.requires) ∙ ap Some is))))
