use Rattle.cml_room.proofs.RunningLemmas.{nobody_forgotten}
use Rattle.cml_room.proofs.laws.nobody_is_left_asleep.Goals as goal

pub returns : goal.returns
returns g c = λ calls first none run. nobody_forgotten calls first c.args.room.now none run c.board-board.ensures.asleep
