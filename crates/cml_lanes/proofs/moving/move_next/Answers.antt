use Rattle.std.proofs.Common.{ap, ◌+◌, ◌∙◌, arith, length}
use Rattle.std.proofs.Math.Nat.{min-le_right}
use Rattle.cml_board.specs.{entries_in}
use Rattle.cml_lanes.proofs.LaningLemmas.{laned_within, same_way_call}
use Rattle.cml_lanes.proofs.MovesLemmas.{stops_full, stops_unshared, stops_refused, one_moves}
use Rattle.cml_lanes.proofs.moving.move_next.Goals as goal

pub returns-then-is_full-clause-stopped : goal.returns-then-is_full-clause-stopped
returns-then-is_full-clause-stopped g c =
    stops_full g.L.MessageLog.CHUNK g.M.Message.SURE c.args.number c.args.board.now c.args.lane.now c.requires.kept c.requires.seen
    (rw c.if-is_full.true at c.is_full.ensures.full)

pub returns-in_default-clause-stopped : goal.returns-in_default-clause-stopped
returns-in_default-clause-stopped g c =
    stops_unshared g.L.MessageLog.CHUNK g.M.Message.SURE c.args.number c.args.board.now c.args.lane.now c.requires.kept c.requires.seen
    (rw c.if-is_full.false at c.is_full.ensures.full) c.in_default.ensures.sure

pub take-requires-clause-countable : goal.take-requires-clause-countable
take-requires-clause-countable g c =
    omega (
      arith,
      ap length c.requires.kept.laned,
      laned_within c.args.board.now.history c.args.number,
      rw c.if-is_full.false at c.is_full.ensures.full,
      min-le_right (entries_in c.args.board.now.past + c.args.board.now.limit) 18446744073709551615,
    )

pub returns-in-Reply-clause-moved : goal.returns-in-Reply-clause-moved
returns-in-Reply-clause-moved g c =
    one_moves c.args.number c.args.board.now c.call.new.self c.args.lane.now c.take.new.self c.call-call.result
    c.in-Reply.field-0 c.next.result.now c.take.result
    c.in-Reply.ensures.5 c.in-Reply.ensures.2
    (c.call-call.ensures ∙ same_way_call c.way.ensures c.target.ensures c.in-Ok.ensures.copy) c.next.ensures
    c.take.ensures.side c.take.ensures.next

pub returns-clause-stopped : goal.returns-clause-stopped
returns-clause-stopped g c =
    stops_refused g.L.MessageLog.CHUNK g.M.Message.SURE c.args.number c.args.board.now c.call.new.self c.args.lane.now c.in-Refused.refusal
    c.call-call.result c.next.result.now
    c.requires.kept.kind c.in-Refused.ensures.2 c.next.ensures
    (c.call-call.ensures ∙ same_way_call c.way.ensures c.target.ensures c.in-Ok.ensures.copy) c.in-Refused.ensures.0
