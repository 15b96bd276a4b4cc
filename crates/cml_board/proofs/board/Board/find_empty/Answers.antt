use Rattle.std.proofs.Common.{refl, arith, reverse, ◌++◌}
use Rattle.cml_board.specs.declared.entry.Reply.TheVariants.{Nothing}
use Rattle.cml_board.specs.{asked_call, seen_all}
use Rattle.cml_board.proofs.NotingLemmas.{keeps_call, adds_entry, as_before, lacks}
use Rattle.cml_board.proofs.HoldingLemmas.{answer_empty}
use Rattle.cml_board.proofs.LeavingLemmas.{empty_spares, empty_leaves}
use Rattle.cml_board.proofs.SettingLemmas.{step_spared}
use Rattle.cml_board.proofs.SparingLemmas.{no_room}
use Rattle.cml_board.proofs.board.Board.find_empty.Goals as goal

pub returns-in_default : goal.returns-in_default
returns-in_default g c =
    lacks g.L.MessageLog.CHUNK g.M.Message.SURE c.args.self.now _ c.args.who (asked_call c.args.ask c.args.name) (Nothing)
    c.denied.result (c.ask-call.result) c.denied.ensures c.ask-call.ensures
    (answer_empty c.args.self.now.history c.args.ask c.args.name c.requires.reads c.requires.polls c.requires.empty)
    (no_room (asked_call c.args.ask c.args.name) c.self.view_is (omega (arith, c.in_default.ensures.full)))
    (as_before c.self.view_is c.in_default.ensures.items refl (omega (arith, c.reserve.ensures.len, c.reserve.ensures.capacity)))

pub invariant_of-self-2 : goal.invariant_of-self-2
invariant_of-self-2 g c =
    let chunk = g.L.MessageLog.CHUNK in
    let asked = asked_call c.args.ask c.args.name in
    keeps_call chunk c.args.who asked c.ask-call.result Nothing Nothing c.self.view_is c.self.invariant
    c.note.ensures.entries c.reserve.ensures.items
    c.ask-call.ensures refl c.requires.room c.requires.fits
    (answer_empty c.args.self.now.history c.args.ask c.args.name c.requires.reads c.requires.polls c.requires.empty)
    (λ lawful shows. step_spared chunk c.args.who asked Nothing (reverse c.self.inside.journal.items ++ c.self.inside.past)
    (seen_all g.L.MessageLog.log c.self.inside.objects.items)
    (empty_spares c.args.ask c.args.name c.requires.reads) (λ k. empty_leaves c.args.ask c.args.name k c.requires.reads) shows)

pub returns : goal.returns
returns g c =
    let asked = asked_call c.args.ask c.args.name in (
      answer_empty c.args.self.now.history c.args.ask c.args.name c.requires.reads c.requires.polls c.requires.empty,
      adds_entry c.args.who asked c.ask-call.result Nothing Nothing c.self.view_is c.note.ensures.entries c.reserve.ensures.items
          c.ask-call.ensures refl (omega (arith, c.reserve.ensures.len, c.reserve.ensures.capacity, c.note.ensures.spare)),
    )
