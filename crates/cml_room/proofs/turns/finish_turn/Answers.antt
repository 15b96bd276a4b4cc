use Rattle.std.proofs.Common.{ap, ◌∙◌}
use Rattle.cml_room.specs.declared.turns.Ended.TheVariants.{Waits}
use Rattle.cml_room.proofs.UnmovedLemmas.{room_kept}
use Rattle.cml_room.proofs.CallingLemmas.{before_follows}
use Rattle.cml_room.proofs.FinishingLemmas.{answered_may, answered_follows, answered_told, answered_turns, failed_may, failed_same}
use Rattle.cml_room.proofs.FinishingLemmas.{failed_told, failed_turns, waits_some, waits_may, waits_would, waits_watched, waits_told}
use Rattle.cml_room.proofs.FinishingLemmas.{waits_turns}
use Rattle.cml_room.proofs.turns.finish_turn.Goals as goal

pub answer_turn-requires : goal.answer_turn-requires
answer_turn-requires g c = answered_may c.in-Answered.news c.requires c.in-Answered.is

pub end_turn-requires : goal.end_turn-requires
end_turn-requires g c = failed_may c.requires c.in-Failed.is

pub unreachable-requires : goal.unreachable-requires
unreachable-requires g c = waits_some c.requires (c.in-Waits.is ∙ ap Waits c.in_default.is)

pub park-requires-clause-may : goal.park-requires-clause-may
park-requires-clause-may g c = waits_may c.in-Some.want c.requires (c.in-Waits.is ∙ ap Waits c.in-Some.is)

pub park-requires-clause-would : goal.park-requires-clause-would
park-requires-clause-would g c = waits_would c.in-Some.want c.requires (c.in-Waits.is ∙ ap Waits c.in-Some.is)

pub park-requires-clause-watched : goal.park-requires-clause-watched
park-requires-clause-watched g c = waits_watched c.in-Some.want c.requires (c.in-Waits.is ∙ ap Waits c.in-Some.is)

pub returns-in-Answered-clause-watched : goal.returns-in-Answered-clause-watched
returns-in-Answered-clause-watched g c =
    c.answer_turn.ensures.kept c.requires.before c.requires.turned.watched
    (answered_follows c.in-Answered.news c.requires c.in-Answered.is)

pub returns-in-Answered-clause-asks : goal.returns-in-Answered-clause-asks
returns-in-Answered-clause-asks g c = λ turn.
    answered_told c.answer_turn.new.seats c.in-Answered.news turn c.in-Answered.is c.answer_turn.ensures.ends

pub returns-in-Answered-clause-turns : goal.returns-in-Answered-clause-turns
returns-in-Answered-clause-turns g c = λ turn.
    answered_turns c.answer_turn.new.seats c.in-Answered.news turn c.in-Answered.is c.answer_turn.ensures.ends c.answer_turn.ensures.due

pub returns-in-Failed-clause-watched : goal.returns-in-Failed-clause-watched
returns-in-Failed-clause-watched g c =
    let same = failed_same c.requires c.in-Failed.is in
    c.end_turn.ensures.kept c.requires.before c.requires.turned.watched
    (before_follows _ c.requires.before.board c.args.floor.now.board same)
    (room_kept c.requires.before.board c.args.floor.now.board same)

pub returns-in-Failed-clause-asks : goal.returns-in-Failed-clause-asks
returns-in-Failed-clause-asks g c = λ turn. failed_told c.end_turn.new.seats turn c.in-Failed.is c.end_turn.ensures.ends

pub returns-in-Failed-clause-turns : goal.returns-in-Failed-clause-turns
returns-in-Failed-clause-turns g c = λ turn.
    failed_turns c.end_turn.new.seats turn c.in-Failed.is c.end_turn.ensures.ends c.end_turn.ensures.due

pub returns-in-Some-clause-asks : goal.returns-in-Some-clause-asks
returns-in-Some-clause-asks g c = λ turn.
    waits_told c.park.new.seats c.in-Some.want c.park.result turn (c.in-Waits.is ∙ ap Waits c.in-Some.is) c.park.ensures.parked

pub returns-in-Some-clause-turns : goal.returns-in-Some-clause-turns
returns-in-Some-clause-turns g c = λ turn.
    waits_turns c.park.new.seats c.in-Some.want c.park.result turn (c.in-Waits.is ∙ ap Waits c.in-Some.is)
    c.park.ensures.none c.park.ensures.asked c.park.ensures.due
