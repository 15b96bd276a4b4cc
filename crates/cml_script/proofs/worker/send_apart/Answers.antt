use Rattle.std.proofs.Common.{◌≡◌, ◌+◌, ◌∙◌, Some, refl, ap, sym}
use Rattle.cml_report.specs.declared.route.Route.TheVariants as route
use Rattle.cml_script.specs.{by_lane, act_of_line}
use Rattle.cml_report.specs.{is_by_ring}
use Rattle.cml_script.proofs.WorkLemmas.{on_ok, turn_listed, turn_goes, more_gone}
use Rattle.cml_script.proofs.SendLemmas.{lane_gives, lane_target, lane_acts}
use Rattle.cml_script.proofs.worker.send_apart.Goals as goal

pub unreachable-requires : goal.unreachable-requires
unreachable-requires g c =
    let turn = c.args.turn.now in
    let script = turn.plan.now in
    let steps = rw c.script.ensures at c.steps.ensures in
    let items = c.steps.result.now in
    let within = turn_listed script (turn.thread + 1) turn.step c.requires.at.own items steps.lines in
    lane_gives script items turn.step c.args.capacity _ steps.lines steps.asked within c.requires.laid _ _ c.in-Ask.is

pub number-requires : goal.number-requires
number-requires g c =
    let turn = c.args.turn.now in
    let script = turn.plan.now in
    let steps = rw c.script.ensures at c.steps.ensures in
    let items = c.steps.result.now in
    let within = turn_listed script (turn.thread + 1) turn.step c.requires.at.own items steps.lines in
    lane_target script items turn.step c.args.capacity _ steps.lines steps.asked within c.requires.laid c.requires.at.known
    _ c.in-Give.at c.in-Give.message c.in-Give.is

pub returns-clause-way : goal.returns-clause-way
returns-clause-way g c =
    let step = c.args.turn.now.step in
    let script = c.args.turn.now.plan.now in
    let seat = c.args.turn.now.thread + 1 in
    let turn = c.requires.at.own in
    let capacity = c.args.capacity in
    let steps = rw c.script.ensures at c.steps.ensures in
    let items = c.steps.result.now in
    let within = turn_listed script seat step turn items steps.lines in
    let goes = turn_goes script seat step turn (route.Lane capacity) c.requires.laid in
    let message = c.in-Give.message in
    let sends : act_of_line script turn.line ≡ Some (by_lane c.number.result capacity message) =
    lane_acts script items step capacity _ turn.line _ steps.lines steps.asked within turn.found goes c.in-Give.is
    ∙ ap (λ n. Some (by_lane (record { 0 = n }) capacity message)) (sym c.number.ensures) in
    let shared : act_of_line script turn.line ≡ Some (by_lane c.number.result capacity c.in-Ok.message) =
    sends ∙ ap (λ m. Some (by_lane c.number.result capacity m)) (sym c.in-Ok.ensures.cases) in
    let later = g.C.Caller.made c.send_apart.new.self in
    on_ok c.send_apart.result
    (λ made. more_gone script seat step c.requires.at.way turn
    (by_lane c.number.result capacity c.in-Ok.message) _ later (ap is_by_ring goes) shared
    made refl refl refl)
    c.send_apart.ensures.made
