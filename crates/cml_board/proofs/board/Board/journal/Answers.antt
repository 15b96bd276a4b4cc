use Rattle.cml_board.proofs.NotingLemmas.{keeps_at}
use Rattle.cml_board.proofs.SoundLemmas.{is_sound}
use Rattle.cml_board.proofs.board.Board.journal.Goals as goal

pub returns-clause-sound : goal.returns-clause-sound
returns-clause-sound g c =
    is_sound g.L.MessageLog.CHUNK c.args.self.now (keeps_at g.L.MessageLog.CHUNK c.self.view_is c.self.invariant)
