use Rattle.cml_room.proofs.RunningLemmas.{nobody_forgotten}
use Rattle.cml_threads.specs.{room_of}
use Rattle.cml_threads.proofs.laws.nobody_is_left_asleep_in_a_hall.Goals as goal

pub returns : goal.returns
returns g c = λ calls first none run. nobody_forgotten calls first (room_of c.args.hall.now) none run c.board-board.ensures.asleep
