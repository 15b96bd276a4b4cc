use Rattle.cml_threads.specs.{room_of}
use Rattle.cml_room.proofs.RunningLemmas.{one_is_enough}
use Rattle.cml_threads.proofs.laws.one_next_due_is_enough_in_a_hall.Goals as goal

pub returns : goal.returns
returns g c = λ calls given first none run.
    one_is_enough calls given first (room_of c.args.hall.now) none run c.board-board.ensures.asleep
