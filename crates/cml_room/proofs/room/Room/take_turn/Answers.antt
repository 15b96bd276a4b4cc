use Rattle.std.proofs.Common.{refl, ap}
use Rattle.cml_board.specs.declared.outcome.Outcome.TheVariants.{Answered, WouldWait, Refused}
use Rattle.cml_room.specs.{TurnEnds}
use Rattle.cml_room.specs.declared.turns.Ended.TheVariants as ended
use Rattle.cml_room.proofs.room.Room.take_turn.Goals.{In-Answered, In-Refused, After-want}
use Rattle.cml_room.proofs.room.Room.take_turn.Goals as goal

-- the turn, where the call was answered, failed, or would wait
abbrev answered : (g : _) (c : In-Answered g)
    → TurnEnds g.L.MessageLog.CHUNK g.M.Message.SURE c.apply.new.self c.self.inside.seats c.args.seat
    (ended.Answered c.news_in-news.result)
answered g c = record {
  room = c.args.self.now;
  before = c.self.inside.floor;
  call = c.args.call;
  outcome = Answered c.in-Answered.answer;
  turned = record {
    may = c.requires;
    view = c.self.view_is;
    watched = c.self.invariant;
    barred = c.in-Answered.ensures.barred;
    applied = c.in-Answered.ensures.applied;
    lanes = c.apply.ensures.lanes;
    feeds = c.apply.ensures.feeds;
  };
  is = ap ended.Answered c.news_in-news.ensures;
}

abbrev failed : (g : _) (c : In-Refused g) → TurnEnds g.L.MessageLog.CHUNK g.M.Message.SURE c.apply.new.self c.self.inside.seats c.args.seat
    ended.Failed
failed g c = record {
  room = c.args.self.now;
  before = c.self.inside.floor;
  call = c.args.call;
  outcome = Refused c.in-Refused.refusal c.in-Refused.call;
  turned = record {
    may = c.requires;
    view = c.self.view_is;
    watched = c.self.invariant;
    barred = c.in-Refused.ensures.barred;
    applied = c.in-Refused.ensures.applied;
    lanes = c.apply.ensures.lanes;
    feeds = c.apply.ensures.feeds;
  };
  is = refl;
}

abbrev waits : (g : _) (c : After-want g) → TurnEnds g.L.MessageLog.CHUNK g.M.Message.SURE c.apply.new.self c.self.inside.seats c.args.seat
    (ended.Waits c.want.result)
waits g c = record {
  room = c.args.self.now;
  before = c.self.inside.floor;
  call = c.args.call;
  outcome = WouldWait c.in-WouldWait.call;
  turned = record {
    may = c.requires;
    view = c.self.view_is;
    watched = c.self.invariant;
    barred = c.in-WouldWait.ensures.barred;
    applied = c.in-WouldWait.ensures.applied;
    lanes = c.apply.ensures.lanes;
    feeds = c.apply.ensures.feeds;
  };
  is = ap ended.Waits c.want.ensures;
}

pub returns-in-Answered-clause-asks : goal.returns-in-Answered-clause-asks
returns-in-Answered-clause-asks g c = c.finish_turn.ensures.asks (answered g (goal.at.returns-in-Answered-clause-asks g c).In-Answered)

pub returns-in-Answered-clause-turns : goal.returns-in-Answered-clause-turns
returns-in-Answered-clause-turns g c = c.finish_turn.ensures.turns (answered g (goal.at.returns-in-Answered-clause-turns g c).In-Answered)

pub returns-in-Refused-clause-asks : goal.returns-in-Refused-clause-asks
returns-in-Refused-clause-asks g c =
    c.finish_turn-in-Refused.ensures.asks (failed g (goal.at.returns-in-Refused-clause-asks g c).In-Refused)

pub returns-in-Refused-clause-turns : goal.returns-in-Refused-clause-turns
returns-in-Refused-clause-turns g c =
    c.finish_turn-in-Refused.ensures.turns (failed g (goal.at.returns-in-Refused-clause-turns g c).In-Refused)

pub returns-then-finish_turn-clause-asks : goal.returns-then-finish_turn-clause-asks
returns-then-finish_turn-clause-asks g c =
    c.if-finish_turn.ensures.asks (waits g (goal.at.returns-then-finish_turn-clause-asks g c).After-want)

pub returns-then-finish_turn-clause-turns : goal.returns-then-finish_turn-clause-turns
returns-then-finish_turn-clause-turns g c =
    c.if-finish_turn.ensures.turns (waits g (goal.at.returns-then-finish_turn-clause-turns g c).After-want)

pub returns-else-finish_turn-clause-asks : goal.returns-else-finish_turn-clause-asks
returns-else-finish_turn-clause-asks g c =
    c.if-finish_turn.ensures.asks (waits g (goal.at.returns-else-finish_turn-clause-asks g c).After-want)

pub returns-else-finish_turn-clause-turns : goal.returns-else-finish_turn-clause-turns
returns-else-finish_turn-clause-turns g c =
    c.if-finish_turn.ensures.turns (waits g (goal.at.returns-else-finish_turn-clause-turns g c).After-want)
