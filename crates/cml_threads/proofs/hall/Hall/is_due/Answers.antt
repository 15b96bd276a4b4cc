use Rattle.std.proofs.Common.{ap, subst, ◌∙◌}
use Rattle.cml_room.specs.{state_of, SleepsRightly}
use Rattle.cml_threads.specs.{Hosted, room_of}
use Rattle.cml_threads.proofs.hall.Hall.is_due.Goals as goal

pub returns-clause-asleep : goal.returns-clause-asleep
returns-clause-asleep g c = λ isnt on parked.
    subst (λ (h : Hosted g.row.M.Denot). SleepsRightly (room_of h) on) c.self.view_is
    (c.is_due.ensures.asleep isnt on (ap (λ (h : Hosted g.row.M.Denot). state_of (room_of h) c.args.seat) c.self.view_is ∙ parked))
