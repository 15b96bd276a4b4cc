use Rattle.cml_room.proofs.RunningLemmas.{one_is_enough}
use Rattle.cml_room.proofs.laws.one_next_due_is_enough.Goals as goal

pub returns : goal.returns
returns g c =
    λ calls given first none run. one_is_enough calls given first c.args.room.now none run c.board-board.ensures.asleep
