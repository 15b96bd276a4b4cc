use Rattle.std.proofs.Common.{◌+◌, ◌∙◌, get_or, Some, IsSome, false, length, ap, sym, subst, arith}
use Rattle.std.specs.Option.{option_map}
use Rattle.std.proofs.lemmas.Option.{slice_get-get_or}
use Rattle.cml_report.specs.declared.route.Route.TheVariants as route
use Rattle.cml_report.specs.{call_on, is_by_ring, AreBindings}
use Rattle.cml_report.proofs.FollowerLemmas.{step_calls, used_within}
use Rattle.cml_script.proofs.WorkLemmas.{an_opening, is_opening, so_far, entries_are, next_called, call_known, turn_listed, turn_goes}
use Rattle.cml_script.proofs.WorkLemmas.{turn_called, some_mapped}
use Rattle.cml_script.proofs.worker.call_of.Goals as goal

pub object-object-requires : goal.object-object-requires
object-object-requires c =
    let turn = c.args.turn.now in
    let script = turn.plan.now in
    let under = c.requires.at.1 in
    let steps = rw c.script.ensures at c.steps.ensures in
    let items = c.steps.result.now in
    let within = turn_listed script (turn.thread + 1) turn.step under.own items steps.lines in
    let here = slice_get-get_or items turn.step c.index-steps-turn.result within in
    let bound = under.way.bound (an_opening script) (is_opening script) in
    omega (arith, used_within script items turn.step _ steps.asked here, c.used_by.ensures, bound.all, ap length c.deref.ensures.value)

pub unwrap-requires : goal.unwrap-requires
unwrap-requires c =
    let step = c.args.turn.now.step in
    let script = c.args.turn.now.plan.now in
    let seat = c.args.turn.now.thread + 1 in
    let turn = c.requires.at.1.own in
    let under = c.requires.at.1.way in
    let goes = turn_goes script seat step turn route.Seat c.requires.called in
    let called = turn_called script seat step turn false (ap is_by_ring goes) in
    let first = an_opening script in
    let opening = is_opening script in
    let history = so_far script seat (omega arith) first opening under in
    let steps = rw c.script.ensures at c.steps.ensures in
    let items = c.steps.result.now in
    let within = turn_listed script seat step turn items steps.lines in
    let s = get_or items step c.index-steps-turn.result in
    let here = slice_get-get_or items step c.index-steps-turn.result within in
    let bound = subst (AreBindings script history) (sym c.deref.ensures.value) (under.bound first opening) in
    let object = c.object-object.ensures history (entries_are script seat (omega arith) first opening under) bound in
    let calls = step_calls script history items step c.used_by.result s c.object-object.result steps.lines steps.asked here
    c.used_by.ensures object in
    let next = next_called script seat (omega arith) first opening under turn called in
    let known = call_known script seat (omega arith) first opening under items step s c.requires.at.1.known steps.lines steps.asked
    steps.earlier here next in
    some_mapped (call_on s.action) c.object-object.result (subst IsSome calls known)

pub returns : goal.returns
returns c = λ history all bound.
    let step = c.args.turn.now.step in
    let script = c.args.turn.now.plan.now in
    let steps = rw c.script.ensures at c.steps.ensures in
    let items = c.steps.result.now in
    let within = turn_listed script (c.args.turn.now.thread + 1) step c.requires.at.1.own items steps.lines in
    let s = get_or items step c.index-steps-turn.result in
    let here = slice_get-get_or items step c.index-steps-turn.result within in
    let object = c.object-object.ensures history all (subst (AreBindings script history) (sym c.deref.ensures.value) bound) in
    let calls = step_calls script history items step c.used_by.result s c.object-object.result steps.lines steps.asked here
    c.used_by.ensures object in
    calls ∙ ap (option_map (call_on s.action)) c.unwrap.ensures ∙ ap Some (sym c.in_ok-call.ensures)
