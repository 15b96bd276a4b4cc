use Rattle.std.proofs.Common.{refl}
use Rattle.cml_report.specs.Left.{is_by_lane}
use Rattle.cml_report.specs.{is_laid}
use Rattle.cml_report.proofs.LineLemmas.{step_counted}
use Rattle.cml_report.proofs.plan.count_laid.Goals as goal

pub loop-step-preserved : goal.loop-step-preserved
loop-step-preserved c =
    let told = c.steps-step-items.ensures in
    step_counted c.args.script.now (is_laid c.args.script.now) is_by_lane
    (λ line. refl) _ _ _ _ c.step-item.result _ _ told.lines told.asked
    c.loop-step-test.true c.step-item.is c.loop-step.invariant c.from-laid.ensures c.is_by_lane.ensures c.route_of.ensures.route
