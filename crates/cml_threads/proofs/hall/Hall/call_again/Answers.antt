use Rattle.cml_room.specs.{MayAskAgain}
use Rattle.cml_threads.proofs.TallyingLemmas.{responded_asks, responded_turns}
use Rattle.cml_threads.proofs.hall.Hall.call_again.Goals as goal

pub returns-clause-asks : goal.returns-clause-asks
returns-clause-asks g c =
    responded_asks g.L.MessageLog.CHUNK g.M.Message.SURE (λ r n. MayAskAgain r n c.args.call) c.args.self.now c.self.inside.room
    c.call_again-response.new.self c.self.inside.book.total c.count_reply.new.book.total c.args.seat.now c.count_reply.new.seat c.number.result c.args.call
    c.call_again-response.result c.self.view_is c.number.ensures c.call_again-response.ensures.asks
    (λ entries. c.count_reply.ensures entries c.args.call)

pub returns-clause-turns : goal.returns-clause-turns
returns-clause-turns g c =
    responded_turns c.args.self.now c.self.inside.room c.call_again-response.new.self c.self.inside.book.total c.count_reply.new.book.total
    c.args.seat.now.number c.number.result c.args.call c.call_again-response.result
    c.self.view_is c.number.ensures c.call_again-response.ensures.turns
