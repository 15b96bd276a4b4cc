use Rattle.std.proofs.Common.{◌≡◌, ◌-◌, List, slice_get, Some, refl, sym, subst, arith}
use Rattle.cml_room.specs.declared.place.Place.TheVariants as place
use Rattle.cml_room.specs.{Place, IsKept, row_in, SeatsShown}
use Rattle.cml_room.proofs.ListingLemmas.{listed_same, kept_taken, one_free}
use Rattle.cml_room.proofs.seats.Seats.leave.Goals as goal

pub overflow_sub-self : goal.overflow_sub-self
overflow_sub-self c =
    one_free c.args.number c.self.invariant
    (subst (λ (v : SeatsShown). slice_get v.places c.args.number ≡ Some place.Free) (sym c.self.view_is) c.requires)

pub invariant_of-self : goal.invariant_of-self
invariant_of-self c =
    let was = subst (λ (v : SeatsShown). slice_get v.places c.args.number ≡ Some place.Free) (sym c.self.view_is) c.requires in
    subst (λ (l : List Place). IsKept l (c.self.inside.free - 1) c.self.inside.parked c.self.inside.rows c.self.inside.due) (sym
    c.set.ensures)
    (kept_taken c.args.number place.Left was c.self.invariant refl (omega arith)
    (listed_same c.self.inside.rows row_in c.self.inside.places c.args.number place.Free place.Left was
    c.self.invariant.in_rows (λ r. refl)) (λ r. refl) refl refl refl)
