use Rattle.std.proofs.Common.{◌≡◌, Bool, true, false, slice_get, Some, sym}
use Rattle.cml_grammar.specs.{source_of}
use Rattle.cml_report.specs.{is_moved_on}
use Rattle.cml_report.proofs.ObjectLemmas.{lane_within}
use Rattle.cml_report.proofs.MovedLemmas.{lane_moved, any_at, none_more}
use Rattle.cml_report.proofs.lanes.is_on_line.Goals.{After-is_moved_to}
use Rattle.cml_report.proofs.lanes.is_on_line.Goals as goal

pub number-requires : goal.number-requires
number-requires c =
    let told = c.lanes-lane-items.ensures in
    lane_within c.args.plan.now c.script.result.now c.lanes-lane-items.result.now c.loop-lane.lane-index c.lane-item.result c.script.ensures
    told.lines told.said c.loop-lane-test.true c.lane-item.is c.requires

-- the lane's line is one of the script's, and the entry is on it or not
here : (c : After-is_moved_to) (on : Bool) → c.is_moved_to.result ≡ on
    → (slice_get c.args.plan.now.lanes c.loop-lane.lane-index ≡ Some (source_of c.lane-item.result.line))
    × (is_moved_on c.args.plan.now c.args.lanes.now c.args.entry.now (source_of c.lane-item.result.line) ≡ on)
here c on is =
    let told = c.lanes-lane-items.ensures in
    lane_moved c.args.plan.now c.script.result.now c.lanes-lane-items.result.now c.loop-lane.lane-index c.lane-item.result c.script.ensures
    told.lines told.said c.loop-lane-test.true c.lane-item.is c.args.lanes.now c.args.entry.now _ _ on
    c.number.ensures c.is_moved_to.ensures is

pub loop-lane-preserved : goal.loop-lane-preserved
loop-lane-preserved c =
    let here = here (goal.at.loop-lane-preserved c).After-is_moved_to false c.if-is_moved_to.false in
    none_more (is_moved_on c.args.plan.now c.args.lanes.now c.args.entry.now) c.args.plan.now.lanes c.loop-lane.lane-index _
    here.0 c.loop-lane.invariant here.1

pub returns-then-is_moved_to : goal.returns-then-is_moved_to
returns-then-is_moved_to c =
    let here = here (goal.at.returns-then-is_moved_to c).After-is_moved_to true c.if-is_moved_to.true in
    sym (any_at (is_moved_on c.args.plan.now c.args.lanes.now c.args.entry.now) c.args.plan.now.lanes
    c.loop-lane.lane-index _ here.0 here.1)
