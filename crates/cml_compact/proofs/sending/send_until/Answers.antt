use Rattle.std.proofs.Common.{◌≡◌, ◌+◌, ◌-◌, length, unwrap_or, ap, subst, IfErr, ◌∙◌, arith}
use Rattle.cml_board.specs.{entries_in, sent}
use Rattle.cml_compact.specs.{Stops}
use Rattle.cml_compact.proofs.StockLemmas.{get_within, some_at}
use Rattle.cml_compact.proofs.PlanLemmas.{channel_counts, part_size}
use Rattle.cml_compact.proofs.sending.send_until.Goals as goal

pub returns-clause-err : goal.returns-clause-err
returns-clause-err g c =
    let h = c.args.new.now.history in
    let k = length (sent h c.args.channel.0) in
    let front = some_at _ (get_within c.args.plan.now.fronts.items c.args.channel.0 c.requires.within) in
    let from : c.unwrap_or-from.result ≡ k = channel_counts h c.args.channel.0 c.unwrap_or-from.result c.requires.kind
    (c.unwrap_or-from.ensures ∙ ap (λ n. unwrap_or n 0) c.sent_count.ensures) in
    let size = part_size c.args.plan.now.messages.items c.part.result.now front.0 c.unwrap_or-from.result c.args.to
    (c.requires.enough front.0 front.1) (omega (arith, from, c.requires.order)) (c.part.ensures front.0 front.1) in
    let same : length c.part.result.now ≡ c.args.to - k = omega (arith, size, from) in
    subst (λ n. IfErr c.share_all.result (Stops c.args.new.now.limit (entries_in h + n))) same c.share_all.ensures.err
