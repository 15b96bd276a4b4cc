use Rattle.std.proofs.Common.{rules}
use Rattle.cml_board.specs.{entries_in, outcome_of}
use Rattle.cml_room.specs.{MayAsk, news_by}
use Rattle.std.specs.Prelude.{⊤}
use Rattle.cml_room.proofs.FramesLemmas.{turns_heard}
use Rattle.cml_room.proofs.TurningLemmas.{may_ask}
use Rattle.cml_room.proofs.room.Room.call.Goals as goal

pub returns-clause-asks : goal.returns-clause-asks
returns-clause-asks g c =
    let may : MayAsk c.args.self.now c.args.seat = search rules in
    may_ask g.L.MessageLog.CHUNK g.M.Message.SURE _ c.args.self.now c.call_turn.new.self c.args.seat c.args.call
    (outcome_of (entries_in c.args.self.now.board.history) c.args.call c.call_turn.result) may c.call_turn.ensures.asks

pub returns-clause-turns : goal.returns-clause-turns
returns-clause-turns g c =
    let outcome = outcome_of (entries_in c.args.self.now.board.history) c.args.call c.call_turn.result in
    turns_heard g.L.MessageLog.CHUNK g.M.Message.SURE ⊤ c.args.self.now c.call_turn.new.self c.args.seat c.args.call outcome
    (news_by outcome) c.call_turn.ensures.asks c.call_turn.ensures.turns
