use Rattle.std.proofs.Common.{refl, sym}
use Rattle.cml_lanes.proofs.MovesLemmas.{keeps_moved, moves_more, on_none}
use Rattle.cml_lanes.proofs.moving.move_seen.Goals as goal

pub move_next-refusal-requires-clause-kept : goal.move_next-refusal-requires-clause-kept
move_next-refusal-requires-clause-kept g c =
    keeps_moved c.args.number c.loop-moved.moved c.args.board.now c.loop-moved.board c.args.lane.now
    c.loop-moved.lane c.requires c.loop-moved.invariant

pub loop-moved-preserved : goal.loop-moved-preserved
loop-moved-preserved g c =
    moves_more c.args.number c.loop-moved.moved 1 _ c.args.board.now c.loop-moved.board c.move_next-refusal.new.board
    c.args.lane.now c.loop-moved.lane c.move_next-refusal.new.lane refl c.loop-moved.invariant
    (on_none c.move_next-refusal.result (sym c.if-is_some.ensures) c.move_next-refusal.ensures.moved)
