use Rattle.std.proofs.Common.{refl, sym, ap, ◌∙◌, ◌≡◌, reverse, Some, None, arith, ◌++◌}
use Rattle.std.proofs.lemmas.Option.{same_Some}
use Rattle.cml_board.specs.declared.entry.Reply.TheVariants.{Got}
use Rattle.cml_board.specs.{asked_call, held, seen_all, HasVariable}
use Rattle.cml_board.specs.Shown.{Shown}
use Rattle.cml_board.proofs.NotingLemmas.{keeps_at, keeps_call, inside, adds_entry, as_before, lacks, unchanged}
use Rattle.cml_board.proofs.HoldingLemmas.{look_variable, answer_read, some_message, variable_stands, was_held}
use Rattle.cml_board.proofs.LeavingLemmas.{taken_sets}
use Rattle.cml_board.proofs.SettingLemmas.{step_set}
use Rattle.cml_board.proofs.SparingLemmas.{no_room, answer_takes}
use Rattle.cml_board.proofs.board.Board.empty.Goals as goal

pub returns-in_default : goal.returns-in_default
returns-in_default g c =
    let some = some_message (held c.args.self.now.history c.args.name.0) c.requires.full in
    let answers = answer_read c.args.self.now.history c.args.ask c.args.name some.0 c.requires.reads some.1 in
    lacks g.L.MessageLog.CHUNK g.M.Message.SURE c.args.self.now _ c.args.who (asked_call c.args.ask c.args.name) (Got some.0)
    c.denied.result (c.ask-call.result) c.denied.ensures c.ask-call.ensures
    (answers)
    (answer_takes c.args.self.now (asked_call c.args.ask c.args.name) some.0 answers c.in_default.ensures.sure)
    (unchanged c.args.self.now)

pub returns-in_default-reserve : goal.returns-in_default-reserve
returns-in_default-reserve g c =
    lacks g.L.MessageLog.CHUNK g.M.Message.SURE c.args.self.now _ c.args.who (asked_call c.args.ask c.args.name) (Got c.in-Ok.noted)
    c.denied-in_default-reserve.result (c.ask-call.result) c.denied-in_default-reserve.ensures c.ask-call.ensures
    (answer_read c.args.self.now.history c.args.ask c.args.name c.in-Ok.noted c.requires.reads c.in-Ok.ensures.copy)
    (no_room (asked_call c.args.ask c.args.name) c.self.view_is (omega (arith, c.in_default-reserve.ensures.full)))
    (as_before c.self.view_is c.in_default-reserve.ensures.items refl (omega (arith, c.reserve.ensures.len, c.reserve.ensures.capacity)))

pub share_held-requires-clause-stands : goal.share_held-requires-clause-stands
share_held-requires-clause-stands g c = look_variable c.args.self.now.history c.args.ask c.args.name c.requires.reads c.requires.fits

pub hold_at-requires : goal.hold_at-requires
hold_at-requires g c =
    let chunk = g.L.MessageLog.CHUNK in
    inside (λ (b : Shown g.row.M.Denot). HasVariable b.objects c.args.name.0) c.self.view_is
    (variable_stands chunk c.args.self.now c.args.name.0 (keeps_at chunk c.self.view_is c.self.invariant)
    (look_variable c.args.self.now.history c.args.ask c.args.name c.requires.reads c.requires.fits))

pub unreachable-requires : goal.unreachable-requires
unreachable-requires g c =
    c.requires.full
    (was_held g.L.MessageLog.CHUNK c.self.view_is c.self.invariant
    (seen_all g.L.MessageLog.log c.hold_at.new.objects.items) c.args.name.0 c.hold_at.result None c.hold_at.ensures
    ∙ c.in_default-hold_at.is)

pub invariant_of-self-2 : goal.invariant_of-self-2
invariant_of-self-2 g c =
    let chunk = g.L.MessageLog.CHUNK in
    let log = g.L.MessageLog.log in
    let asked = asked_call c.args.ask c.args.name in
    keeps_call chunk c.args.who asked c.ask-call.result (Got c.in-Ok.noted)
    (Got c.in-Ok.noted) c.self.view_is c.self.invariant c.note.ensures.entries c.reserve.ensures.items
    c.ask-call.ensures refl c.requires.room c.requires.fits
    (answer_read c.args.self.now.history c.args.ask c.args.name c.in-Ok.noted c.requires.reads c.in-Ok.ensures.copy)
    (λ lawful shows. step_set chunk c.args.who asked (Got c.in-Ok.noted) c.args.name c.hold_at.result None
    (reverse c.self.inside.journal.items ++ c.self.inside.past) (seen_all log c.self.inside.objects.items)
    (seen_all log c.hold_at.new.objects.items)
    (taken_sets c.args.ask c.args.name c.in-Ok.noted c.requires.empties) shows c.hold_at.ensures)

pub returns : goal.returns
returns g c =
    let chunk = g.L.MessageLog.CHUNK in
    let h = c.args.self.now.history in
    let asked = asked_call c.args.ask c.args.name in
    let full : held h c.args.name.0 ≡ Some c.in-Some.message =
    was_held chunk c.self.view_is c.self.invariant
    (seen_all g.L.MessageLog.log c.hold_at.new.objects.items) c.args.name.0 c.hold_at.result None c.hold_at.ensures ∙ c.in-Some.is in
    let same : c.in-Ok.noted ≡ c.in-Some.message = same_Some _ _ (sym c.in-Ok.ensures.copy ∙ full) in (
      answer_read h c.args.ask c.args.name c.in-Some.message c.requires.reads full,
      adds_entry c.args.who asked c.ask-call.result (Got c.in-Ok.noted)
          (Got c.in-Some.message) c.self.view_is c.note.ensures.entries c.reserve.ensures.items
          c.ask-call.ensures (ap Got same) (omega (arith, c.reserve.ensures.len, c.reserve.ensures.capacity, c.note.ensures.spare)),
    )
