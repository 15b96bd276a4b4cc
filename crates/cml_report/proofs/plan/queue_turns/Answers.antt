use Rattle.cml_report.proofs.ListLemmas.{read_at}
use Rattle.cml_grammar.specs.{names_of, ReadsStep}
use Rattle.cml_report.specs.{is_seated}
use Rattle.cml_report.proofs.LineLemmas.{all_at, has_seats, step_seated}
use Rattle.cml_report.proofs.QueueLemmas.{queues_empty, queues_pushed}
use Rattle.cml_report.proofs.plan.queue_turns.Goals as goal

pub loop-i-init : goal.loop-i-init
loop-i-init c = queues_empty c.args.script.now
    (is_seated c.args.script.now) c.in_ok-queues.queues.items c.in_ok-queues.ensures.len c.in_ok-queues.ensures.empty

pub loop-i-preserved : goal.loop-i-preserved
loop-i-preserved c =
    queues_pushed c.args.script.now (is_seated c.args.script.now) c.loop-i.queues.items c.steps-steps.result.now c.loop-i.i
    c.index-steps-i.result c.index_mut.result.now c.push.new.self
    c.steps-steps.ensures.lines c.steps-steps.ensures.asked
    (read_at _ _ _ c.loop-i-test.true c.index-steps-i.is) c.steps-steps.ensures.threads
    c.index_mut.ensures.value c.in_ok-push.ensures.items
    (λ seat. step_seated c.args.script.now c.index-steps-i.result seat (all_at (ReadsStep (names_of c.args.script.now)) _ _ _
    c.steps-steps.ensures.asked (read_at _ _ _ c.loop-i-test.true c.index-steps-i.is))) c.loop-i.invariant

pub returns-clause-seats : goal.returns-clause-seats
returns-clause-seats c =
    has_seats c.args.script.now c.steps-steps.result.now c.steps-steps.ensures.lines
    c.steps-steps.ensures.asked c.steps-steps.ensures.threads
