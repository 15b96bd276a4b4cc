use Rattle.std.proofs.Common.{◌≡◌, ◌+◌, ◌-◌, ℕ, List, slice_get, Some, refl, sym, ap, subst, arith}
use Rattle.std.specs.Prelude.{◌==◌}
use Rattle.cml_room.specs.declared.place.Place.TheVariants as place
use Rattle.cml_room.specs.{Place, IsKept, row_in, SeatsShown}
use Rattle.cml_room.proofs.ListingLemmas.{listed_push, kept_taken, one_free, waiting_within}
use Rattle.cml_room.proofs.seats.Seats.wait.Goals as goal

pub overflow_sub-self : goal.overflow_sub-self
overflow_sub-self c =
    one_free c.args.number c.self.invariant
    (subst (λ (v : SeatsShown). slice_get v.places c.args.number ≡ Some place.Free) (sym c.self.view_is) c.requires)

pub invariant_of-self : goal.invariant_of-self
invariant_of-self c =
    let was = subst (λ (v : SeatsShown). slice_get v.places c.args.number ≡ Some place.Free) (sym c.self.view_is) c.requires in
    subst (λ (l : List Place). IsKept l (c.self.inside.free - 1) (c.self.inside.parked + 1) c.push.new.self c.self.inside.due) (sym
    c.set.ensures)
    (kept_taken c.args.number _ was c.self.invariant refl refl
    (listed_push c.self.inside.rows c.push.new.self row_in c.self.inside.places c.row_of.result c.args.number
    place.Free _ was c.self.invariant.in_rows
    (λ r. refl) (λ r. ap (λ (row : ℕ). r == row) (sym c.row_of.ensures.row)) c.push.ensures.here c.push.ensures.others)
    (λ r. refl) c.push.ensures.count c.push.ensures.bound c.push.ensures.first)

pub overflow_add-self : goal.overflow_add-self
overflow_add-self c = omega (arith, waiting_within c.self.invariant, c.self.invariant.few)
