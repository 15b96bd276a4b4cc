use Rattle.std.proofs.Common.{refl, arith, reverse, ◌++◌}
use Rattle.cml_board.specs.declared.entry.Reply.TheVariants.{Closed}
use Rattle.cml_board.specs.{asked_call, seen_all}
use Rattle.cml_board.proofs.NotingLemmas.{keeps_call, adds_entry, as_before, lacks}
use Rattle.cml_board.proofs.AnsweringLemmas.{answer_closed}
use Rattle.cml_board.proofs.SteppingLemmas.{step_asking}
use Rattle.cml_board.proofs.SparingLemmas.{no_room}
use Rattle.cml_board.proofs.board.Board.find_closed.Goals as goal

pub returns-in_default : goal.returns-in_default
returns-in_default g c =
    lacks g.L.MessageLog.CHUNK g.M.Message.SURE c.args.self.now _ c.args.who (asked_call c.args.ask c.args.name) (Closed)
    c.denied.result (c.ask-call.result) c.denied.ensures c.ask-call.ensures
    (answer_closed c.args.self.now.history c.args.ask c.args.name c.requires.asks c.requires.closed)
    (no_room (asked_call c.args.ask c.args.name) c.self.view_is (omega (arith, c.in_default.ensures.full)))
    (as_before c.self.view_is c.in_default.ensures.items refl (omega (arith, c.reserve.ensures.len, c.reserve.ensures.capacity)))

pub invariant_of-self-2 : goal.invariant_of-self-2
invariant_of-self-2 g c =
    let call = asked_call c.args.ask c.args.name in
    keeps_call g.L.MessageLog.CHUNK c.args.who call c.ask-call.result Closed Closed c.self.view_is c.self.invariant
    c.note.ensures.entries c.reserve.ensures.items
    c.ask-call.ensures refl c.requires.room c.requires.fits
    (answer_closed c.args.self.now.history c.args.ask c.args.name c.requires.asks c.requires.closed)
    (λ lawful shows. step_asking g.L.MessageLog.CHUNK c.args.who c.args.ask c.args.name
    (reverse c.self.inside.journal.items ++ c.self.inside.past)
    (seen_all g.L.MessageLog.log c.self.inside.objects.items) c.requires.asks shows)

pub returns : goal.returns
returns g c =
    let call = asked_call c.args.ask c.args.name in (
      answer_closed c.args.self.now.history c.args.ask c.args.name c.requires.asks c.requires.closed,
      adds_entry c.args.who call c.ask-call.result Closed Closed c.self.view_is c.note.ensures.entries c.reserve.ensures.items
          c.ask-call.ensures refl
          (omega (arith, c.reserve.ensures.len, c.reserve.ensures.capacity, c.note.ensures.spare)),
    )
