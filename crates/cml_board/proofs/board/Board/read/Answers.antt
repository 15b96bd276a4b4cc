use Rattle.std.proofs.Common.{refl, sym, ap, ◌∙◌, reverse, Some, arith, ◌++◌}
use Rattle.cml_board.specs.declared.entry.Reply.TheVariants.{Got}
use Rattle.cml_board.specs.{asked_call, held, seen_all}
use Rattle.cml_board.proofs.NotingLemmas.{keeps_call, as_before, adds_entry, lacks, unchanged}
use Rattle.cml_board.proofs.HoldingLemmas.{look_variable, answer_read, some_message}
use Rattle.cml_board.proofs.LeavingLemmas.{read_spares, read_leaves}
use Rattle.cml_board.proofs.SettingLemmas.{step_spared}
use Rattle.cml_board.proofs.SparingLemmas.{no_room, answer_takes}
use Rattle.cml_board.proofs.board.Board.read.Goals as goal

pub returns-in_default : goal.returns-in_default
returns-in_default g c =
    let some = some_message (held c.args.self.now.history c.args.name.0) c.requires.full in
    let answers = answer_read c.args.self.now.history c.args.ask c.args.name some.0 c.requires.reads some.1 in
    lacks g.L.MessageLog.CHUNK g.M.Message.SURE c.args.self.now _ c.args.who (asked_call c.args.ask c.args.name) (Got some.0)
    c.denied.result (c.ask-call.result) c.denied.ensures c.ask-call.ensures
    (answers)
    (answer_takes c.args.self.now (asked_call c.args.ask c.args.name) some.0 answers c.in_default.ensures.sure)
    (unchanged c.args.self.now)

pub returns-in_default-share : goal.returns-in_default-share
returns-in_default-share g c =
    let some = some_message (held c.args.self.now.history c.args.name.0) c.requires.full in
    let answers = answer_read c.args.self.now.history c.args.ask c.args.name some.0 c.requires.reads some.1 in
    lacks g.L.MessageLog.CHUNK g.M.Message.SURE c.args.self.now _ c.args.who (asked_call c.args.ask c.args.name) (Got some.0)
    c.denied-in_default-share.result (c.ask-call.result) c.denied-in_default-share.ensures c.ask-call.ensures
    (answers)
    (answer_takes c.args.self.now (asked_call c.args.ask c.args.name) some.0 answers c.in_default-share.ensures.sure)
    (unchanged c.args.self.now)

pub returns-in_default-reserve : goal.returns-in_default-reserve
returns-in_default-reserve g c =
    lacks g.L.MessageLog.CHUNK g.M.Message.SURE c.args.self.now _ c.args.who (asked_call c.args.ask c.args.name) (Got c.in-Ok.message)
    c.denied-in_default-reserve.result (c.ask-call.result) c.denied-in_default-reserve.ensures c.ask-call.ensures
    (answer_read c.args.self.now.history c.args.ask c.args.name c.in-Ok.message c.requires.reads c.in-Ok.ensures.copy)
    (no_room (asked_call c.args.ask c.args.name) c.self.view_is (omega (arith, c.in_default-reserve.ensures.full)))
    (as_before c.self.view_is c.in_default-reserve.ensures.items refl (omega (arith, c.reserve.ensures.len, c.reserve.ensures.capacity)))

pub share_held-requires-clause-stands : goal.share_held-requires-clause-stands
share_held-requires-clause-stands g c = look_variable c.args.self.now.history c.args.ask c.args.name c.requires.reads c.requires.fits

pub invariant_of-self-2 : goal.invariant_of-self-2
invariant_of-self-2 g c =
    let chunk = g.L.MessageLog.CHUNK in
    let h = c.args.self.now.history in
    let asked = asked_call c.args.ask c.args.name in
    keeps_call chunk c.args.who asked c.ask-call.result (Got c.in-Ok-share.noted)
    (Got c.in-Ok-share.noted) c.self.view_is c.self.invariant c.note.ensures.entries c.reserve.ensures.items
    c.ask-call.ensures refl c.requires.room c.requires.fits
    (answer_read h c.args.ask c.args.name c.in-Ok-share.noted c.requires.reads
    (c.in-Ok.ensures.copy ∙ ap Some (sym c.in-Ok-share.ensures.copy)))
    (λ lawful shows. step_spared chunk c.args.who asked (Got c.in-Ok-share.noted)
    (reverse c.self.inside.journal.items ++ c.self.inside.past) (seen_all g.L.MessageLog.log c.self.inside.objects.items)
    (read_spares c.args.ask c.args.name c.in-Ok-share.noted c.requires.reads)
    (λ k. read_leaves c.args.ask c.args.name c.in-Ok-share.noted k c.requires.reads c.requires.leaves) shows)

pub returns : goal.returns
returns g c =
    let h = c.args.self.now.history in
    let asked = asked_call c.args.ask c.args.name in (
      answer_read h c.args.ask c.args.name c.in-Ok.message c.requires.reads c.in-Ok.ensures.copy,
      adds_entry c.args.who asked c.ask-call.result (Got c.in-Ok-share.noted)
          (Got c.in-Ok.message) c.self.view_is c.note.ensures.entries c.reserve.ensures.items
          c.ask-call.ensures (ap Got c.in-Ok-share.ensures.copy)
          (omega (arith, c.reserve.ensures.len, c.reserve.ensures.capacity, c.note.ensures.spare)),
    )
