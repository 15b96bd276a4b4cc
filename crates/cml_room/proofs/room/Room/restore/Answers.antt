use Rattle.std.proofs.Common.{ap, ◌∙◌, replicate}
use Rattle.cml_board.specs.declared.restored.Makers.{Makers}
use Rattle.cml_room.specs.declared.place.Place.TheVariants as place
use Rattle.cml_room.proofs.RestoringLemmas.{watched_left, states_left, none_due}
use Rattle.cml_room.proofs.WokenLemmas.{left_quiet}
use Rattle.cml_room.proofs.room.Room.restore.Goals as goal

pub invariant_of-result : goal.invariant_of-result
invariant_of-result g c =
    watched_left c.in_ok-restore.field-0 c.in_ok-seats.seats.places c.makers-makers.result.seats
    c.in_ok-seats.seats.all_due c.in_ok-seats.ensures.places

pub returns-clause-seats : goal.returns-clause-seats
returns-clause-seats g c =
    states_left c.in_ok-seats.seats.places c.args.restored.makers.seats
    (c.in_ok-seats.ensures.places ∙ ap (λ (m : Makers). replicate m.seats place.Left) c.makers-makers.ensures.same)

pub returns-clause-none : goal.returns-clause-none
returns-clause-none g c = λ number. none_due c.in_ok-seats.seats.places c.makers-makers.result.seats number _ c.in_ok-seats.ensures.places

pub returns-clause-quiet : goal.returns-clause-quiet
returns-clause-quiet g c = record {
  all = c.in_ok-seats.ensures.none;
  each = left_quiet c.in_ok-seats.seats.places c.makers-makers.result.seats c.in_ok-seats.ensures.places;
}
