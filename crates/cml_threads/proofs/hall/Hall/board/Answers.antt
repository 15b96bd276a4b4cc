use Rattle.std.proofs.Common.{ap, subst}
use Rattle.cml_board.specs.Shown.{Shown}
use Rattle.cml_board.specs.{IsSound}
use Rattle.cml_threads.specs.{Hosted}
use Rattle.cml_threads.proofs.hall.Hall.board.Goals as goal

pub returns-clause-sound : goal.returns-clause-sound
returns-clause-sound g c =
    let sound : IsSound g.L.MessageLog.CHUNK c.self.inside.room.board = c.board.ensures.sound in
    subst (λ (b : Shown g.row.M.Denot). IsSound g.L.MessageLog.CHUNK b) (ap (λ (h : Hosted g.row.M.Denot). h.board) c.self.view_is) sound
