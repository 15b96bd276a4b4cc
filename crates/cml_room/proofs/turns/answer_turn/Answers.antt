use Rattle.std.proofs.Common.{sym, subst, ◌∙◌}
use Rattle.cml_room.specs.{EndsTurn}
use Rattle.cml_room.proofs.EndingLemmas.{all_watched, free_unless_waits}
use Rattle.cml_room.proofs.IdlingLemmas.{none_waits}
use Rattle.cml_room.proofs.ParkingLemmas.{none_freed, none_watched}
use Rattle.cml_room.proofs.RisingLemmas.{nobody_few, nobody_risen}
use Rattle.cml_room.proofs.WokenLemmas.{free_asked}
use Rattle.cml_room.proofs.turns.answer_turn.Goals as goal

pub returns-then-parked-eq0-clause-ends : goal.returns-then-parked-eq0-clause-ends
returns-then-parked-eq0-clause-ends g c =
    let olds = c.args.seats.now.places in
    let none = none_waits olds (sym c.parked.ensures ∙ c.if-parked-eq0.true) in
    record {
      states = none_freed olds c.args.number none c.requires.may;
      few = nobody_few c.args.floor.now.board.history c.args.news _ olds olds (nobody_risen olds olds none);
      asked = free_asked olds c.args.number (free_unless_waits olds c.args.number c.requires.may (none c.args.number));
    }

pub returns-then-parked-eq0-clause-kept : goal.returns-then-parked-eq0-clause-kept
returns-then-parked-eq0-clause-kept g c = λ before watched next.
    none_watched c.args.floor.now c.args.seats.now.places c.args.seats.now.all_due
    (none_waits c.args.seats.now.places (sym c.parked.ensures ∙ c.if-parked-eq0.true))

pub returns-then-is_full-clause-ends : goal.returns-then-is_full-clause-ends
returns-then-is_full-clause-ends g c =
    subst (EndsTurn c.args.floor.now.board.history c.args.number c.args.news c.args.seats.now.places) (sym c.rouse_all.ensures.places)
    c.end_turn.ensures.ends

pub returns-then-is_full-clause-kept : goal.returns-then-is_full-clause-kept
returns-then-is_full-clause-kept g c = λ before watched next.
    all_watched c.args.floor.now c.end_turn.new.seats.places c.rouse_all.new.self.places
    c.rouse_all.new.self.all_due c.end_turn.ensures.placed
    c.rouse_all.ensures.places c.rouse_all.ensures.due
