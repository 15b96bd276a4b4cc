use Rattle.std.proofs.Common.{refl}
use Rattle.cml_report.specs.{is_apart, is_by_ring}
use Rattle.cml_report.proofs.LineLemmas.{step_counted}
use Rattle.cml_report.proofs.plan.count_apart.Goals as goal

pub loop-step-preserved : goal.loop-step-preserved
loop-step-preserved c =
    let told = c.steps-step-items.ensures in
    step_counted c.args.script.now (is_apart c.args.script.now) is_by_ring
    (λ line. refl) _ _ _ _ c.step-item.result _ _ told.lines told.asked
    c.loop-step-test.true c.step-item.is c.loop-step.invariant c.from-apart.ensures c.is_by_ring.ensures c.route_of.ensures.route
