use Rattle.std.proofs.Common.{◌+◌, Some, length, refl, sym, ap, ◌∙◌, arith}
use Rattle.std.proofs.lemmas.Result.{IfErr-weaker, on_ok_weaker}
use Rattle.cml_board.specs.{entries_in, facts_of, owed_to}
use Rattle.cml_compact.specs.{Stops, begun_anew, stock}
use Rattle.cml_compact.proofs.AnewLemmas.{changes_sent, stops_more}
use Rattle.cml_compact.proofs.StagesLemmas.{begun_weighs}
use Rattle.cml_compact.proofs.StockLemmas.{mailbox_stock}
use Rattle.cml_compact.proofs.PlanLemmas.{channel_stocked, mailbox_empty, plan_front, plan_part}
use Rattle.cml_compact.proofs.sending.send_one.Goals as goal

pub send_owed-requires-clause-empty : goal.send_owed-requires-clause-empty
send_owed-requires-clause-empty g c =
    let is = sym c.kind.ensures ∙ c.in-Some-Mailbox.is ∙ ap Some c.in-Some-Mailbox.field-0-is in
    ap (λ f. f.sent) c.requires.begun ∙ mailbox_empty c.args.board.now.history c.args.name.0 c.requires.lawful is

pub returns-in-Some-Mailbox-clause-ok : goal.returns-in-Some-Mailbox-clause-ok
returns-in-Some-Mailbox-clause-ok g c =
    let h = c.args.board.now.history in
    let is = sym c.kind.ensures ∙ c.in-Some-Mailbox.is ∙ ap Some c.in-Some-Mailbox.field-0-is in
    on_ok_weaker c.send_owed.result (λ changes.
    changes_sent c.args.new.now c.send_owed.new.new c.args.name.0 (facts_of c.args.new.now.history c.args.name.0)
    (begun_anew h c.args.name.0) (owed_to h c.args.name.0) (stock h c.args.name.0) changes c.requires.begun
    (mailbox_stock h c.args.name.0 c.requires.lawful is)) c.send_owed.ensures.ok

pub returns-in-Some-Mailbox-clause-err : goal.returns-in-Some-Mailbox-clause-err
returns-in-Some-Mailbox-clause-err g c =
    let h = c.args.board.now.history in
    let is = sym c.kind.ensures ∙ c.in-Some-Mailbox.is ∙ ap Some c.in-Some-Mailbox.field-0-is in
    let none = mailbox_empty h c.args.name.0 c.requires.lawful is in
    let all = mailbox_stock h c.args.name.0 c.requires.lawful is in
    IfErr-weaker c.send_owed.result (Stops c.args.new.now.limit (entries_in c.args.new.now.history + length (owed_to h c.args.name.0))) _
    (λ y. stops_more c.args.new.now.limit c.args.new.now.limit (entries_in c.args.new.now.history + length (owed_to h c.args.name.0)) _ y refl
    (omega (arith, begun_weighs h c.args.name.0, ap length none, ap length all))) c.send_owed.ensures.err

pub send_until-requires-clause-enough : goal.send_until-requires-clause-enough
send_until-requires-clause-enough g c =
    let h = c.args.board.now.history in
    let is = sym c.kind.ensures ∙ c.in-Some-Channel.is ∙ ap Some c.in-Some-Channel.field-0-is in
    let all = ap length (c.requires.slowest is) in
    λ front there. (plan_part h _ _ _ c.args.name.0 front 0 c.owed.result c.requires.plan is there (omega arith)
    (omega (arith, c.owed.ensures, all))).0

pub returns-in-Some-Channel-clause-ok : goal.returns-in-Some-Channel-clause-ok
returns-in-Some-Channel-clause-ok g c =
    let h = c.args.board.now.history in
    let is = sym c.kind.ensures ∙ c.in-Some-Channel.is ∙ ap Some c.in-Some-Channel.field-0-is in
    let front = plan_front h _ _ _ c.args.name.0 c.requires.plan is in
    on_ok_weaker c.send_until.result (λ changes.
    channel_stocked h c.args.new.now c.send_until.new.new c.args.name.0 front.0 c.owed.result _ _ _ c.requires.plan is front.1
    (c.owed.ensures ∙ ap length (c.requires.slowest is)) c.requires.begun (changes front.0 front.1)) c.send_until.ensures.ok
