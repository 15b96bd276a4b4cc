use Rattle.std.proofs.Common.{refl, sym, ap, ◌∙◌, reverse, arith, ◌++◌, slice_get, Some}
use Rattle.std.proofs.lemmas.Option.{same_Some}
use Rattle.cml_log.specs.Log.{Log}
use Rattle.cml_log.specs.{owed_items}
use Rattle.cml_board.specs.declared.entry.Reply.TheVariants.{Got}
use Rattle.cml_board.specs.{asked_call, log_at, owed, HasOwed, seen_all, ReadsAt}
use Rattle.cml_board.specs.Shown.{Shown}
use Rattle.cml_board.proofs.NotingLemmas.{keeps_call, keeps_same, as_before, inside, adds_entry, unchanged, lacks}
use Rattle.cml_board.proofs.AnsweringLemmas.{answer_taken, some_owed, fits_taking}
use Rattle.cml_board.proofs.LookingLemmas.{reads_owed, first_owed}
use Rattle.cml_board.proofs.SteppingLemmas.{step_taken}
use Rattle.cml_board.proofs.SparingLemmas.{no_room, answer_takes}
use Rattle.cml_board.proofs.board.Board.take.Goals as goal

pub returns-in_default : goal.returns-in_default
returns-in_default g c =
    let some = some_owed (owed c.args.self.now.history c.args.name.0) c.requires.owed in
    let answers = answer_taken c.args.self.now.history c.args.ask c.args.name some.0 c.requires.takes c.requires.reads.opened some.1 in
    lacks g.L.MessageLog.CHUNK g.M.Message.SURE c.args.self.now _ c.args.who (asked_call c.args.ask c.args.name) (Got some.0)
    c.denied.result (c.ask-call.result) c.denied.ensures c.ask-call.ensures
    (answers)
    (answer_takes c.args.self.now (asked_call c.args.ask c.args.name) some.0 answers c.in_default.ensures.sure)
    (unchanged c.args.self.now)

pub returns-in_default-reserve : goal.returns-in_default-reserve
returns-in_default-reserve g c =
    let some = some_owed (owed c.args.self.now.history c.args.name.0) c.requires.owed in
    let answers = answer_taken c.args.self.now.history c.args.ask c.args.name some.0 c.requires.takes c.requires.reads.opened some.1 in
    lacks g.L.MessageLog.CHUNK g.M.Message.SURE c.args.self.now _ c.args.who (asked_call c.args.ask c.args.name) (Got some.0)
    c.denied-in_default-reserve.result (c.ask-call.result) c.denied-in_default-reserve.ensures c.ask-call.ensures
    (answers)
    (no_room (asked_call c.args.ask c.args.name) c.self.view_is (omega (arith, c.in_default-reserve.ensures.full)))
    (as_before c.self.view_is c.in_default-reserve.ensures.items refl (omega (arith, c.reserve.ensures.len, c.reserve.ensures.capacity)))

pub invariant_of-self-in_default-take_at : goal.invariant_of-self-in_default-take_at
invariant_of-self-in_default-take_at g c =
    keeps_same g.L.MessageLog.CHUNK _ _ _ _ _ c.self.invariant c.reserve.ensures.items c.in_default-take_at.ensures.err

pub returns-in_default-take_at : goal.returns-in_default-take_at
returns-in_default-take_at g c =
    let some = some_owed (owed c.args.self.now.history c.args.name.0) c.requires.owed in
    let answers = answer_taken c.args.self.now.history c.args.ask c.args.name some.0 c.requires.takes c.requires.reads.opened some.1 in
    lacks g.L.MessageLog.CHUNK g.M.Message.SURE c.args.self.now _ c.args.who (asked_call c.args.ask c.args.name) (Got some.0)
    c.denied-in_default-take_at.result (c.ask-call.result) c.denied-in_default-take_at.ensures c.ask-call.ensures
    (answers)
    (answer_takes c.args.self.now (asked_call c.args.ask c.args.name) some.0 answers c.in_default-take_at.ensures.sure)
    (as_before c.self.view_is c.reserve.ensures.items c.in_default-take_at.ensures.err
    (omega (arith, c.reserve.ensures.len, c.reserve.ensures.capacity)))

pub take_at-requires-clause-owed : goal.take_at-requires-clause-owed
take_at-requires-clause-owed g c =
    inside (λ (b : Shown g.row.M.Denot). HasOwed b.objects c.args.source.0 c.args.key) c.self.view_is
    (reads_owed c.args.self.now c.args.name.0 c.args.source.0 c.args.key c.requires.reads c.requires.owed)

pub take_at-requires-clause-first : goal.take_at-requires-clause-first
take_at-requires-clause-first g c = λ log there.
    let here = ap (λ (b : Shown g.row.M.Denot). log_at b.objects c.args.source.0) c.self.view_is ∙ c.log.ensures in
    ap (λ (read : Log g.row.M.Denot). slice_get (owed_items read c.args.key) 0)
    (same_Some log (g.L.MessageLog.log c.log.result.now) (sym there ∙ here))
    ∙ c.in-Ok.ensures.copy

pub invariant_of-self-2 : goal.invariant_of-self-2
invariant_of-self-2 g c =
    let chunk = g.L.MessageLog.CHUNK in
    let h = c.args.self.now.history in
    let call = asked_call c.args.ask c.args.name in
    let first = first_owed c.args.self.now c.args.name.0 c.args.source.0 c.args.key (g.L.MessageLog.log c.log.result.now)
    c.in-Ok.noted c.requires.reads c.log.ensures c.in-Ok.ensures.copy in
    let reads = inside (λ (b : Shown g.row.M.Denot). ReadsAt b c.args.name.0 c.args.source.0 c.args.key) c.self.view_is c.requires.reads in
    let owes = inside (λ (b : Shown g.row.M.Denot). HasOwed b.objects c.args.source.0 c.args.key) c.self.view_is
    (reads_owed c.args.self.now c.args.name.0 c.args.source.0 c.args.key c.requires.reads c.requires.owed) in
    keeps_call chunk c.args.who call c.ask-call.result (Got c.in-Ok.noted)
    (Got c.in-Ok.noted) c.self.view_is c.self.invariant c.note.ensures.entries c.reserve.ensures.items
    c.ask-call.ensures refl c.requires.room (fits_taking h c.args.ask c.args.name c.requires.takes c.requires.reads.receiver)
    (answer_taken h c.args.ask c.args.name c.in-Ok.noted c.requires.takes c.requires.reads.opened first)
    (λ lawful shows. rw c.in-Ok-take_at.ensures.ok
    (step_taken chunk c.args.who c.args.ask c.args.name c.in-Ok.noted (reverse c.self.inside.journal.items ++ c.self.inside.past)
    (seen_all g.L.MessageLog.log c.self.inside.objects.items) c.args.source.0 c.args.key c.requires.takes shows reads.reads owes))

pub returns : goal.returns
returns g c =
    let h = c.args.self.now.history in
    let call = asked_call c.args.ask c.args.name in
    let first = first_owed c.args.self.now c.args.name.0 c.args.source.0 c.args.key (g.L.MessageLog.log c.log.result.now)
    c.in-Ok.noted c.requires.reads c.log.ensures c.in-Ok.ensures.copy in
    let same = sym c.in-Ok-take_at.ensures.same in (
      answer_taken h c.args.ask c.args.name c.in-Ok.noted c.requires.takes c.requires.reads.opened first
          ∙ ap (λ (message : g.row.M.Denot). Some (Got message)) same,
      adds_entry c.args.who call c.ask-call.result (Got c.in-Ok.noted)
          (Got c.in-Ok-take_at.message) c.self.view_is c.note.ensures.entries c.reserve.ensures.items c.ask-call.ensures
          (ap Got same)
          (omega (arith, c.reserve.ensures.len, c.reserve.ensures.capacity, c.note.ensures.spare)),
    )
