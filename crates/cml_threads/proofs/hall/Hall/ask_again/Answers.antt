use Rattle.cml_room.specs.{MayAskAgain}
use Rattle.cml_threads.proofs.TallyingLemmas.{told_asks, told_turns}
use Rattle.cml_threads.proofs.hall.Hall.ask_again.Goals as goal

pub returns-clause-asks : goal.returns-clause-asks
returns-clause-asks g c =
    told_asks g.L.MessageLog.CHUNK g.M.Message.SURE
    (λ r n. MayAskAgain r n c.args.call) c.args.self.now c.self.inside.room c.ask_again-outcome.new.self
    c.self.inside.book.total c.count.new.book.total c.args.seat.now c.count.new.seat c.number.result c.args.call c.ask_again-outcome.result
    c.self.view_is c.number.ensures c.ask_again-outcome.ensures.asks c.count.ensures

pub returns-clause-turns : goal.returns-clause-turns
returns-clause-turns g c =
    told_turns c.args.self.now c.self.inside.room c.ask_again-outcome.new.self c.self.inside.book.total c.count.new.book.total
    c.args.seat.now.number c.number.result
    c.ask_again-outcome.result c.self.view_is c.number.ensures c.ask_again-outcome.ensures.turns
