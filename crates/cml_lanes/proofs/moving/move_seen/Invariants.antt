use Rattle.cml_lanes.specs.{MovesOut}
use Rattle.cml_lanes.proofs.moving.move_seen.Given as goal

abbrev pub invariant-loop-moved : goal.invariant-loop-moved
invariant-loop-moved g l = MovesOut l.number l.moved l.initial.board l.board l.initial.lane l.lane
