use Rattle.std.proofs.Common.{sym, arith}
use Rattle.cml_report.proofs.ListLemmas.{read_at}
use Rattle.cml_report.proofs.FollowerLemmas.{step_within, next_of_at}
use Rattle.cml_report.proofs.follower.Follower.next_of.Goals as goal

pub bounds-steps-step : goal.bounds-steps-step
bounds-steps-step c =
    let steps = rw c.script.ensures at c.steps.ensures in
    step_within _ c.args.self.now _ _ _ c.self.view_is c.self.invariant c.steps.result.now c.args.who c.in_ok-step.step steps.lines
    (sym c.in_ok-step.ensures)

pub offset_bounds-steps-step : goal.offset_bounds-steps-step
offset_bounds-steps-step c =
    let steps = rw c.script.ensures at c.steps.ensures in
    let within = step_within _ c.args.self.now _ _ _ c.self.view_is c.self.invariant c.steps.result.now c.args.who c.in_ok-step.step
    steps.lines (sym c.in_ok-step.ensures) in
    omega (arith, within, c.steps.ensures.few)

pub returns : goal.returns
returns c =
    let steps = rw c.script.ensures at c.steps.ensures in
    let within = step_within _ c.args.self.now _ _ _ c.self.view_is c.self.invariant c.steps.result.now c.args.who c.in_ok-step.step
    steps.lines (sym c.in_ok-step.ensures) in
    next_of_at _ c.args.self.now c.args.who c.steps.result.now c.in_ok-step.step _ c.self.view_is
    (sym c.in_ok-step.ensures) steps.lines steps.asked
    (read_at c.steps.result.now c.in_ok-step.step c.index-steps-step.result within c.index-steps-step.is)
