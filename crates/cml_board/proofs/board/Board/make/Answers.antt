use Rattle.std.proofs.Common.{◌-◌, refl, ap, ◌∙◌, arith, Some, vec_len, vec_capacity}
use Rattle.std.proofs.lemmas.List.{length-map}
use Rattle.cml_board.specs.declared.entry.Reply.TheVariants.{Made}
use Rattle.cml_board.specs.{making_call, map_log, seen_all, CanMake, HasSource}
use Rattle.cml_board.specs.Shown.{Shown}
use Rattle.cml_board.proofs.NotingLemmas.{board_of, keeps_at, keeps_call, made_name, inside, adds_entry, keeps_same, as_before, lacks}
use Rattle.cml_board.proofs.MakingLemmas.{fits_made, answer_made, has_source, step_made}
use Rattle.cml_board.proofs.SparingLemmas.{no_room, making_takes}
use Rattle.cml_board.proofs.board.Board.make.Goals as goal

pub invariant_of-self-in_default-add_made : goal.invariant_of-self-in_default-add_made
invariant_of-self-in_default-add_made g c =
    keeps_same g.L.MessageLog.CHUNK _ _ _ _ _ c.self.invariant c.reserve.ensures.items c.in_default-add_made.ensures.err

pub add_made-requires : goal.add_made-requires
add_made-requires g c =
    inside (λ (b : Shown g.row.M.Denot). HasSource b.objects c.args.making) c.self.view_is
    (has_source g.L.MessageLog.CHUNK c.args.self.now c.args.making
    (keeps_at g.L.MessageLog.CHUNK c.self.view_is c.self.invariant) c.requires.can)

pub returns-in_default : goal.returns-in_default
returns-in_default g c =
    lacks g.L.MessageLog.CHUNK g.M.Message.SURE c.args.self.now _ c.args.who (making_call c.args.making) (_)
    c.denied.result (c.call-call.result) c.denied.ensures c.call-call.ensures
    (answer_made c.args.self.now c.args.making c.requires.can)
    (no_room (making_call c.args.making) c.self.view_is (omega (arith, c.in_default.ensures.full)))
    (as_before c.self.view_is c.in_default.ensures.items refl (omega (arith, c.reserve.ensures.len, c.reserve.ensures.capacity)))

pub returns-in_default-add_made : goal.returns-in_default-add_made
returns-in_default-add_made g c =
    lacks g.L.MessageLog.CHUNK g.M.Message.SURE c.args.self.now _ c.args.who (making_call c.args.making) (_)
    c.denied-in_default-add_made.result (c.call-call.result) c.denied-in_default-add_made.ensures c.call-call.ensures
    (answer_made c.args.self.now c.args.making c.requires.can)
    (making_takes c.args.self.now (making_call c.args.making) _ (answer_made c.args.self.now c.args.making c.requires.can))
    (as_before c.self.view_is c.reserve.ensures.items c.in_default-add_made.ensures.err
    (omega (arith, c.reserve.ensures.len, c.reserve.ensures.capacity)))

pub invariant_of-self-2 : goal.invariant_of-self-2
invariant_of-self-2 g c =
    let chunk = g.L.MessageLog.CHUNK in
    let log = g.L.MessageLog.log in
    let h = c.args.self.now.history in
    keeps_call chunk c.args.who (making_call c.args.making) c.call-call.result (Made (record { 0 = c.len.result }))
    (Made (record { 0 = c.len.result })) c.self.view_is c.self.invariant c.note.ensures.entries c.reserve.ensures.items
    c.call-call.ensures refl c.requires.room (fits_made c.args.self.now c.args.making c.requires.can)
    (answer_made c.args.self.now c.args.making c.requires.can ∙ ap Some (made_name chunk c.self.view_is c.self.invariant c.len.result
    (omega (arith, c.len.ensures, length-map c.self.inside.objects.items (map_log log), c.self.inside.objects.ok.0))))
    (λ lawful shows. step_made chunk c.args.who c.args.making (record { 0 = c.len.result })
    (board_of c.self.inside.past c.self.inside.journal.items c.self.inside.limit (seen_all log c.self.inside.objects.items)
    (vec_capacity c.self.inside.journal - vec_len c.self.inside.journal)) (seen_all log c.add_made.new.objects.items)
    c.self.invariant (inside (λ (b : Shown g.row.M.Denot). CanMake b c.args.making) c.self.view_is c.requires.can)
    c.in-Ok-add_made.ensures.ok)

pub returns : goal.returns
returns g c =
    let chunk = g.L.MessageLog.CHUNK in
    let log = g.L.MessageLog.log in
    let h = c.args.self.now.history in (
      answer_made c.args.self.now c.args.making c.requires.can ∙ ap Some (made_name chunk c.self.view_is c.self.invariant c.len.result
          (omega (arith, c.len.ensures, length-map c.self.inside.objects.items (map_log log), c.self.inside.objects.ok.0))),
      adds_entry c.args.who (making_call c.args.making) c.call-call.result (Made (record { 0 = c.len.result }))
          (Made (record { 0 = c.len.result })) c.self.view_is c.note.ensures.entries c.reserve.ensures.items c.call-call.ensures refl
          (omega (arith, c.reserve.ensures.len, c.reserve.ensures.capacity, c.note.ensures.spare)),
    )
