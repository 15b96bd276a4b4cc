use Rattle.cml_board.proofs.NotingLemmas.{keeps_at}
use Rattle.cml_board.proofs.FindingLemmas.{found_object}
use Rattle.cml_board.proofs.board.Board.object.Goals as goal

pub returns : goal.returns
returns g c =
    found_object g.L.MessageLog.CHUNK g.L.MessageLog.log c.args.self.now c.self.inside.past c.self.inside.journal.items c.self.inside.limit
    c.self.inside.objects.items c.deref.result.now
    c.self.view_is (keeps_at g.L.MessageLog.CHUNK c.self.view_is c.self.invariant) c.deref.ensures.value c.args.name.0 c.get.result _
    c.get.ensures.lookup.1 c.get.ensures.lookup.3
