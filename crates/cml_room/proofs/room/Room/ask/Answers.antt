use Rattle.std.proofs.Common.{rules}
use Rattle.cml_room.specs.{MayAsk, news_by}
use Rattle.std.specs.Prelude.{⊤}
use Rattle.cml_room.proofs.FramesLemmas.{turns_heard}
use Rattle.cml_room.proofs.TurningLemmas.{may_ask}
use Rattle.cml_room.proofs.room.Room.ask.Goals as goal

pub returns-clause-asks : goal.returns-clause-asks
returns-clause-asks g c =
    let may : MayAsk c.args.self.now c.args.seat = search rules in
    may_ask g.L.MessageLog.CHUNK g.M.Message.SURE _ c.args.self.now c.take_turn.new.self c.args.seat c.args.call
    c.take_turn.result may c.take_turn.ensures.asks

pub returns-clause-turns : goal.returns-clause-turns
returns-clause-turns g c =
    turns_heard g.L.MessageLog.CHUNK g.M.Message.SURE ⊤ c.args.self.now c.take_turn.new.self c.args.seat c.args.call c.take_turn.result
    (news_by c.take_turn.result)
    c.take_turn.ensures.asks c.take_turn.ensures.turns
