use Rattle.std.proofs.Common.{◌<◌, eqb, sym, ap, ◌∙◌, arith}
use Rattle.cml_grammar.specs.{source_of}
use Rattle.cml_report.specs.{declared_count}
use Rattle.cml_report.proofs.ObjectLemmas.{lane_read, lane_within, target_declared, laid_more, lane_leads}
use Rattle.cml_report.proofs.objects.list_laid.Goals as goal

pub number-object-requires : goal.number-object-requires
number-object-requires c =
    let told = c.lanes-lane-items.ensures in
    lane_within c.args.plan.now c.script.result.now c.lanes-lane-items.result.now c.loop-lane.lane-index c.lane-item.result c.script.ensures
    told.lines told.said c.loop-lane-test.true c.lane-item.is c.declared.ensures.known

pub index_mut-requires : goal.index_mut-requires
index_mut-requires c =
    let script = c.args.plan.now in
    let told = c.lanes-lane-items.ensures in
    let read = lane_read script c.script.result.now c.lanes-lane-items.result.now c.loop-lane.lane-index c.lane-item.result c.script.ensures
    told.lines told.said c.loop-lane-test.true c.lane-item.is in
    let lt = (target_declared script c.lane-item.result c.declared.ensures.known read.1).1 in
    omega (arith, lt, c.number-object.ensures, c.loop-lane.invariant.all, c.loop-lane.laid.ok.0)

pub loop-lane-preserved : goal.loop-lane-preserved
loop-lane-preserved c =
    let script = c.args.plan.now in
    let lane = c.lane-item.result in
    let told = c.lanes-lane-items.ensures in
    let read = lane_read script c.script.result.now c.lanes-lane-items.result.now c.loop-lane.lane-index c.lane-item.result c.script.ensures
    told.lines told.said c.loop-lane-test.true c.lane-item.is in
    let target = target_declared script lane c.declared.ensures.known read.1 in
    let object = c.number-object.result.0 in
    let lt : object < declared_count script = omega (arith, target.1, c.number-object.ensures) in
    laid_more script c.loop-lane.lane-index c.loop-lane.laid.items (source_of lane.line) object read.0 lt
    (λ k. lane_leads script lane k read.1 ∙ ap (λ n. eqb n k) (sym c.number-object.ensures)) c.loop-lane.invariant
