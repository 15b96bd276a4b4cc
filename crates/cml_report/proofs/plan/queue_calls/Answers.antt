use Rattle.std.proofs.Common.{ℕ, ◌+◌, take, sym, subst, ap, ◌∙◌}
use Rattle.std.specs.Prelude.{Vec}
use Rattle.std.specs.Global.{Global}
use Rattle.cml_grammar.specs.{names_of, ReadsStep}
use Rattle.cml_report.specs.{is_called, is_by_ring, AreQueues, items_of}
use Rattle.cml_report.proofs.ListLemmas.{read_at}
use Rattle.cml_report.proofs.LineLemmas.{all_at, step_called, step_apart}
use Rattle.cml_report.proofs.QueueLemmas.{queues_empty, queues_pushed, queues_kept}
use Rattle.cml_report.proofs.plan.queue_calls.Goals as goal
use Rattle.cml_report.proofs.plan.queue_calls.Goals.{then-not-is_by_ring+in_ok-push, else-not-is_by_ring}

pub loop-i-init : goal.loop-i-init
loop-i-init c = queues_empty c.args.script.now
    (is_called c.args.script.now) c.in_ok-queues.queues.items c.in_ok-queues.ensures.len c.in_ok-queues.ensures.empty

pub loop-i-preserved : goal.loop-i-preserved
loop-i-preserved c =
    let script = c.args.script.now in
    let told = c.steps-steps.ensures in
    let items = c.steps-steps.result.now in
    let i = c.loop-i.i in
    let s = c.index-steps-i.result in
    let found = read_at items i s c.loop-i-test.true c.index-steps-i.is in
    let reads = all_at (ReadsStep (names_of script)) items i s told.asked found in
    let ring = c.is_by_ring.ensures ∙ ap is_by_ring c.route_of.ensures.route in
    elim c.if-not-is_by_ring.branch [
      | then-not-is_by_ring+in_ok-push w ↦
          let called = λ (seat : ℕ). step_called script s seat reads (sym ring ∙ w.if-not-is_by_ring.true) in
          subst (λ (v : Vec (Vec ℕ Global) Global). AreQueues (is_called script) (take (i + 1) script.steps) (items_of v.items))
          (sym w.queues-is)
          (queues_pushed script (is_called script) c.loop-i.queues.items items i s w.index_mut.result.now w.push.new.self
          told.lines told.asked found told.threads w.index_mut.ensures.value w.in_ok-push.ensures.items called c.loop-i.invariant)
      | else-not-is_by_ring w ↦
          let apart = λ (seat : ℕ). step_apart script s seat reads (sym ring ∙ w.if-not-is_by_ring.false) in
          subst (λ (v : Vec (Vec ℕ Global) Global). AreQueues (is_called script) (take (i + 1) script.steps) (items_of v.items))
          (sym w.queues-is)
          (queues_kept script (is_called script) (items_of c.loop-i.queues.items) items i s told.lines found apart c.loop-i.invariant)
    ]
