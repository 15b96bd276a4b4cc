use Rattle.cml_lanes.proofs.RestoringLemmas.{restored_keeps}
use Rattle.cml_lanes.proofs.floor.Floor.restore.Goals as goal

pub invariant_of-result : goal.invariant_of-result
invariant_of-result g c =
    restored_keeps c.into_board.result c.args.restored.board c.makers-makers.result c.in_ok-lanes.lanes
    c.in_ok-feeds.feeds.feeds c.into_board.ensures.board
    c.makers-makers.ensures.right c.in_ok-lanes.ensures.closed c.in_ok-lanes.ensures.few
    c.in_ok-feeds.ensures.closed c.in_ok-feeds.ensures.few
