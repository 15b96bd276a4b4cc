use Rattle.std.proofs.Common.{◌+◌, ◌-◌, length, refl, sym, ◌∙◌, arith}
use Rattle.std.proofs.lemmas.Option.{slice_get_read}
use Rattle.std.proofs.lemmas.Result.{IfErr-weaker, on_ok_weaker}
use Rattle.cml_board.specs.{entries_in, made, sent}
use Rattle.cml_compact.specs.{Stops, compact_size}
use Rattle.cml_compact.proofs.AnewLemmas.{stops_more}
use Rattle.cml_compact.proofs.BeginningsLemmas.{fewest_most}
use Rattle.cml_compact.proofs.ChannelsLemmas.{port_after}
use Rattle.cml_compact.proofs.PlanLemmas.{begin_told, kind_ready, plan_front, plan_part, sends_before, sends_none, sent_ready}
use Rattle.cml_compact.proofs.StagesLemmas.{sending_more}
use Rattle.cml_compact.proofs.StockLemmas.{port_of}
use Rattle.cml_compact.proofs.making.send_before.Goals as goal

pub send_until-requires-clause-kind : goal.send_until-requires-clause-kind
send_until-requires-clause-kind g c =
    let own = port_of c.args.board.now.history c.args.name.0 c.in-Some.channel (sym c.channel_of.ensures ∙ c.in-Some.is) in
    kind_ready _ c.args.board.now.history c.args.new.now c.args.name.0 c.args.name.0 c.in-Some.channel.0 own.0 c.requires.lawful
    c.requires.reaches own.1

pub send_until-requires-clause-order : goal.send_until-requires-clause-order
send_until-requires-clause-order g c =
    let h = c.args.board.now.history in
    let name = c.args.name.0 in
    let own = port_of h name c.in-Some.channel (sym c.channel_of.ensures ∙ c.in-Some.is) in
    let at = slice_get_read c.args.plan.now.begins.items _ name c.index.result.now refl
    (omega (arith, c.requires.within, c.requires.plan.ports.all)) c.index.ensures in
    let first = begin_told h _ _ _ name c.in-Some.channel.0 own.0 c.index.result.now c.requires.plan own.1 at in
    omega (arith, first, sent_ready _ h c.args.new.now name c.in-Some.channel.0 own.0 c.requires.lawful c.requires.within c.requires.reaches own.1)

pub send_until-requires-clause-within : goal.send_until-requires-clause-within
send_until-requires-clause-within g c =
    let h = c.args.board.now.history in
    let own = port_of h c.args.name.0 c.in-Some.channel (sym c.channel_of.ensures ∙ c.in-Some.is) in
    omega (arith, c.requires.within, c.requires.plan.places.all, (port_after h c.args.name.0 c.in-Some.channel.0 own.0 c.requires.lawful own.1).0)

pub send_until-requires-clause-enough : goal.send_until-requires-clause-enough
send_until-requires-clause-enough g c =
    let h = c.args.board.now.history in
    let name = c.args.name.0 in
    let source = c.in-Some.channel.0 in
    let own = port_of h name c.in-Some.channel (sym c.channel_of.ensures ∙ c.in-Some.is) in
    let at = slice_get_read c.args.plan.now.begins.items _ name c.index.result.now refl
    (omega (arith, c.requires.within, c.requires.plan.ports.all)) c.index.ensures in
    let first = begin_told h _ _ _ name source own.0 c.index.result.now c.requires.plan own.1 at in
    λ front there. (plan_part h _ _ _ source front 0 c.index.result.now c.requires.plan
    (port_after h name source own.0 c.requires.lawful own.1).1 there (omega arith)
    (omega (arith, first, fewest_most h source name (length (made h) - name)))).0

pub returns-in-Some-clause-ok : goal.returns-in-Some-clause-ok
returns-in-Some-clause-ok g c =
    let h = c.args.board.now.history in
    let name = c.args.name.0 in
    let source = c.in-Some.channel.0 in
    let own = port_of h name c.in-Some.channel (sym c.channel_of.ensures ∙ c.in-Some.is) in
    let at = slice_get_read c.args.plan.now.begins.items _ name c.index.result.now refl
    (omega (arith, c.requires.within, c.requires.plan.ports.all)) c.index.ensures in
    let first = begin_told h _ _ _ name source own.0 c.index.result.now c.requires.plan own.1 at in
    let front = plan_front h _ _ _ source c.requires.plan (port_after h name source own.0 c.requires.lawful own.1).1 in
    on_ok_weaker c.send_until.result (λ changes.
    sends_before _ h c.args.new.now c.send_until.new.new name source own.0 front.0 c.index.result.now _ _ _ c.requires.lawful c.requires.within
    own.1 c.requires.plan front.1 first c.requires.reaches (changes front.0 front.1)) c.send_until.ensures.ok

pub returns-in-Some-clause-err : goal.returns-in-Some-clause-err
returns-in-Some-clause-err g c =
    let h = c.args.board.now.history in
    let name = c.args.name.0 in
    let source = c.in-Some.channel.0 in
    let own = port_of h name c.in-Some.channel (sym c.channel_of.ensures ∙ c.in-Some.is) in
    let at = slice_get_read c.args.plan.now.begins.items _ name c.index.result.now refl
    (omega (arith, c.requires.within, c.requires.plan.ports.all)) c.index.ensures in
    let first = begin_told h _ _ _ name source own.0 c.index.result.now c.requires.plan own.1 at in
    let most = entries_in c.args.new.now.history + (c.index.result.now - length (sent c.args.new.now.history source)) in
    IfErr-weaker c.send_until.result (Stops c.args.new.now.limit most) (Stops c.args.new.now.limit (compact_size h))
    (λ y. stops_more c.args.new.now.limit c.args.new.now.limit most (compact_size h) y refl
    (sending_more _ h c.args.new.now name name source c.index.result.now c.requires.reaches (omega (arith, c.requires.within))
    (port_after h name source own.0 c.requires.lawful own.1).0
    (omega (arith, first, fewest_most h source name (length (made h) - name))))) c.send_until.ensures.err

pub returns-in-None-clause-ok : goal.returns-in-None-clause-ok
returns-in-None-clause-ok g c =
    sends_none _ c.args.board.now.history c.args.new.now c.args.name.0 (sym c.channel_of.ensures ∙ c.in-None.is) c.requires.reaches
