use Rattle.cml_room.proofs.RestoringLemmas.{kept_left}
use Rattle.cml_room.proofs.seats.Seats.of_left.Goals as goal

pub invariant_of-result : goal.invariant_of-result
invariant_of-result c =
    kept_left c.in_ok-places.places c.args.count c.in_ok-new.field-0 c.in_ok-new-2.field-0 c.in_ok-places.ensures.places
    c.in_ok-new.ensures.count c.in_ok-new-2.ensures.count c.in_ok-new.ensures.empty c.in_ok-new-2.ensures.empty
    c.in_ok-new.ensures.first c.in_ok-new-2.ensures.first c.in_ok-new.ensures.bound c.in_ok-new-2.ensures.bound
    c.in_ok-places.ensures.small
