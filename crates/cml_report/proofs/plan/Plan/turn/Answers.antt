use Rattle.std.proofs.Common.{◌+◌, slice_get, ap, ◌∙◌}
use Rattle.cml_grammar.specs.{Lines}
use Rattle.cml_report.specs.{is_seated, positions_where}
use Rattle.cml_report.proofs.QueueLemmas.{nth_is}
use Rattle.cml_report.proofs.plan.Plan.turn.Goals as goal

pub returns : goal.returns
returns c =
    let script = c.self.inside.script.now in
    c.copied.ensures ∙ nth_is (is_seated script) script.steps c.self.inside.turns.items c.index-queue.result.now c.deref.result.now
    c.args.thread c.args.nth c.get.result _ c.self.invariant.turned c.requires c.index-queue.ensures c.deref.ensures.value
    c.get.ensures.lookup.1 c.get.ensures.lookup.3
    ∙ ap (λ (s : Lines). slice_get (positions_where (is_seated s (c.args.thread + 1)) 0 s.steps) c.args.nth) c.self.view_is
