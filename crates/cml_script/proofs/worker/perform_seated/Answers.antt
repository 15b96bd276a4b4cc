use Rattle.std.proofs.Common.{◌≡◌, ◌+◌, ◌++◌, ◌∙◌, refl, ap, ap₂, sym, subst, arith}
use Rattle.cml_report.specs.declared.route.Route.TheVariants as route
use Rattle.cml_script.specs.declared.worker.Course.{Course}
use Rattle.cml_report.specs.{bound_by, is_by_ring, AreBindings, with_binding}
use Rattle.cml_script.specs.{IsUnderWay}
use Rattle.cml_report.proofs.KeptLemmas.{bind_within}
use Rattle.cml_script.proofs.WorkLemmas.{an_opening, is_opening, closed_before, may_call, turn_within, turn_goes, more_made}
use Rattle.cml_script.proofs.worker.perform_seated.Goals as goal

pub call_of-requires-clause-at : goal.call_of-requires-clause-at
call_of-requires-clause-at g c = (g.C.Caller.made c.args.caller.now, c.requires.at)

pub call-requires-clause-closed : goal.call-requires-clause-closed
call-requires-clause-closed g c =
    let step = c.args.turn.now.step in
    let script = c.args.turn.now.plan.now in
    let seat = c.args.turn.now.thread + 1 in
    let told = c.in_ok-close_before.ensures in
    let made = g.C.Caller.made c.close_before.new.caller in
    let under : IsUnderWay script seat step c.close_before.new.course made =
    closed_before script seat step _ c.close_before.new.course made c.requires.at.way told.made told.course in
    may_call script seat step c.args.course.now.is_sending c.in-Ok.call under (ap (λ (k : Course). k.is_sending) told.course)

pub given-given-requires : goal.given-given-requires
given-given-requires g c = turn_within c.args.turn.now.plan.now (c.args.turn.now.thread + 1) c.args.turn.now.step c.requires.at.own

pub bind-requires : goal.bind-requires
bind-requires g c =
    let script = c.args.turn.now.plan.now in
    let under = c.requires.at.way in
    let same = c.in_ok-close_before.ensures.course in
    let bound = subst (λ (k : Course). AreBindings script (under.entries ++ an_opening script) k.bindings.items) (sym same)
    (under.bound (an_opening script) (is_opening script)) in
    bind_within script _ c.close_before.new.course.bindings.items c.args.turn.now.step c.given-given.result c.requires.at.known bound
    c.given-given.ensures

pub overflow_add-course : goal.overflow_add-course
overflow_add-course g c =
    let count : c.close_before.new.course.made ≡ c.args.course.now.made = ap (λ (k : Course). k.made) c.in_ok-close_before.ensures.course in
    omega (arith, c.requires.at.room, count)

pub returns-clause-way : goal.returns-clause-way
returns-clause-way g c =
    let step = c.args.turn.now.step in
    let script = c.args.turn.now.plan.now in
    let seat = c.args.turn.now.thread + 1 in
    let turn = c.requires.at.own in
    let told = c.in_ok-close_before.ensures in
    let made = g.C.Caller.made c.close_before.new.caller in
    let under : IsUnderWay script seat step c.close_before.new.course made =
    closed_before script seat step _ c.close_before.new.course made c.requires.at.way told.made told.course in
    let seated = ap is_by_ring (turn_goes script seat step turn route.Seat c.requires.called) in
    let bound = c.bind.ensures ∙ ap₂ (λ a r. with_binding c.close_before.new.course.bindings.items c.given-given.result (bound_by a r))
    (c.call-2.ensures ∙ c.in_ok-answer.ensures.call) c.reply.ensures in
    more_made script seat (omega arith) step under c.requires.at.known turn c.in-Ok.call c.in_ok-answer.answer.reply c.given-given.result
    _ _ seated c.in_ok-answer.ensures.reply
    (λ history long is. c.in-Ok.ensures history (long ∙ ap (λ (k : Course). k.made) told.course)
    (subst (λ (k : Course). AreBindings script history k.bindings.items) told.course is))
    c.given-given.ensures c.in_ok-answer.ensures.made refl bound refl
