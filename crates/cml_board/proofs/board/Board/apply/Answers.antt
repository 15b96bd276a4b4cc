use Rattle.cml_board.proofs.RespondingLemmas.{refuses_call}
use Rattle.cml_board.proofs.board.Board.apply.Goals as goal

pub returns-in_default-share : goal.returns-in_default-share
returns-in_default-share g c = c.unshared.ensures c.args.who

pub returns : goal.returns
returns g c =
    refuses_call g.L.MessageLog.CHUNK g.M.Message.SURE c.args.self.now _ c.args.who c.args.call c.in-Ok.noted c.in-Refused.field-1
    c.in-Refused.refusal c.in-Ok.ensures.copy c.in_default.ensures c.in-Refused.ensures
