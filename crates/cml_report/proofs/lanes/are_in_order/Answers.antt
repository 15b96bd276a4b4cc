use Rattle.std.proofs.Common.{reverse, refl}
use Rattle.std.proofs.lemmas.Bool.{false≢true}
use Rattle.std.proofs.lemmas.Option.{slice_get_within}
use Rattle.cml_grammar.specs.{source_of}
use Rattle.cml_report.specs.{IsInOrderAt}
use Rattle.cml_report.proofs.ObjectLemmas.{lane_read, lane_within}
use Rattle.cml_report.proofs.StallingLemmas.{one_more}
use Rattle.cml_report.proofs.MovedLemmas.{order_at, order_of}
use Rattle.cml_report.proofs.lanes.are_in_order.Goals as goal

pub is_in_order-requires : goal.is_in_order-requires
is_in_order-requires c =
    let told = c.lanes-lane-items.ensures in
    lane_within c.args.plan.now c.script.result.now c.lanes-lane-items.result.now c.loop-lane.lane-index c.lane-item.result c.script.ensures
    told.lines told.said c.loop-lane-test.true c.lane-item.is c.requires

pub loop-lane-preserved : goal.loop-lane-preserved
loop-lane-preserved c =
    let script = c.args.plan.now in
    let lanes = c.args.lanes.now in
    let history = reverse c.args.journal.now in
    let i = c.loop-lane.lane-index in
    let told = c.lanes-lane-items.ensures in
    let read = lane_read script c.script.result.now c.lanes-lane-items.result.now c.loop-lane.lane-index c.lane-item.result c.script.ensures
    told.lines told.said c.loop-lane-test.true c.lane-item.is in
    let here = order_at script lanes history i c.lane-item.result read.0 read.1 (c.if-not-is_in_order.ensures.0 refl) in
    one_more (IsInOrderAt script lanes history) i c.loop-lane.invariant here

pub returns-then-not-is_in_order : goal.returns-then-not-is_in_order
returns-then-not-is_in_order c =
    let script = c.args.plan.now in
    let lanes = c.args.lanes.now in
    let history = reverse c.args.journal.now in
    let i = c.loop-lane.lane-index in
    let lane = c.lane-item.result in
    let told = c.lanes-lane-items.ensures in
    let read = lane_read script c.script.result.now c.lanes-lane-items.result.now c.loop-lane.lane-index c.lane-item.result c.script.ensures
    told.lines told.said c.loop-lane-test.true c.lane-item.is in
    let within = slice_get_within script.lanes i (source_of lane.line) read.0 in (
      λ yes. absurd (false≢true yes),
      λ all. absurd (false≢true (c.if-not-is_in_order.ensures.1 (order_of script lanes history i lane read.0 read.1 (all i within)))),
    )
