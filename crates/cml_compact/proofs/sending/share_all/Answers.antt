use Rattle.std.proofs.Common.{◌+◌, ◌++◌, ◌∷◌, [], List, Some, take, refl, sym, ap, ◌∙◌}
use Rattle.std.proofs.lemmas.List.{append_assoc}
use Rattle.std.proofs.lemmas.Option.{slice_get_read}
use Rattle.cml_calls.specs.declared.table.Give.TheVariants as give
use Rattle.cml_board.specs.{facts_of}
use Rattle.cml_board.proofs.ListLemmas.{take_next}
use Rattle.cml_compact.proofs.AnewLemmas.{changes_as, changes_put}
use Rattle.cml_compact.proofs.sending.share_all.Goals as goal

pub loop-message-preserved : goal.loop-message-preserved
loop-message-preserved g c =
    let before = facts_of c.args.new.now.history c.args.channel.0 in
    let messages = c.args.messages.now in
    let i = c.loop-message.message-index in
    let copy = c.in-Ok.copy in
    let at = slice_get_read messages _ i c.message-item.result refl c.loop-message-test.true c.message-item.is
    ∙ ap Some (sym c.in-Ok.ensures.copy) in
    record {
      changes =
          changes_as c.args.new.now c.tell.new.new c.args.channel.0
          (record before { sent = (before.sent ++ take i messages) ++ copy ∷ [] })
          (record before { sent = before.sent ++ take (i + 1) messages })
          (changes_put c.args.new.now c.loop-message.new c.tell.new.new c.args.who give.Cast c.args.channel copy
          (record before { sent = before.sent ++ take i messages }) refl c.loop-message.invariant.changes c.in_ok-tell.ensures.ok)
          (ap {A = List g.row.M.Denot} (λ xs. record before { sent = xs })
          (append_assoc before.sent (take i messages) (copy ∷ [])
          ∙ ap (λ (xs : List g.row.M.Denot). before.sent ++ xs) (sym (take_next messages i copy at))));
      whose = λ before. c.in_ok-tell.ensures.whose (c.loop-message.invariant.whose before);
    }
