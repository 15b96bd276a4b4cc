use Rattle.std.proofs.Common.{refl, ap, subst}
use Rattle.cml_board.specs.{entries_in, outcome_of}
use Rattle.cml_board.specs.declared.outcome.Outcome.TheVariants.{Answered, WouldWait, Refused}
use Rattle.std.specs.Prelude.{⊤}
use Rattle.cml_room.specs.{TurnEnds, Asks, RoomShown, with_seats}
use Rattle.cml_room.specs.declared.turns.Ended.TheVariants as ended
use Rattle.cml_room.proofs.room.Room.call_turn.Goals.{In-Reply, In-Refused, After-want}
use Rattle.cml_room.proofs.room.Room.call_turn.Goals as goal

-- the turn, where the call was answered, failed, or would wait
abbrev answered : (g : _) (c : In-Reply g) → TurnEnds g.L.MessageLog.CHUNK g.M.Message.SURE c.call.new.self c.self.inside.seats c.args.seat
    (ended.Answered c.news_in-news.result)
answered g c = record {
  room = c.args.self.now;
  before = c.self.inside.floor;
  call = c.args.call;
  outcome = Answered (record { call = c.args.call; reply = c.in-Reply.reply; at = entries_in c.self.inside.floor.board.history });
  turned = record {
    may = c.requires;
    view = c.self.view_is;
    watched = c.self.invariant;
    barred = λ bars. let told = c.in-Reply.ensures.barred bars in
        (ap (outcome_of (entries_in c.self.inside.floor.board.history) c.args.call) told.0, told.1);
    applied = c.in-Reply.ensures.applied;
    lanes = c.call.ensures.lanes;
    feeds = c.call.ensures.feeds;
  };
  is = ap ended.Answered c.news_in-news.ensures;
}

abbrev failed : (g : _) (c : In-Refused g) → TurnEnds g.L.MessageLog.CHUNK g.M.Message.SURE c.call.new.self c.self.inside.seats c.args.seat
    ended.Failed
failed g c = record {
  room = c.args.self.now;
  before = c.self.inside.floor;
  call = c.args.call;
  outcome = Refused c.in-Refused.refusal c.in-Refused.call;
  turned = record {
    may = c.requires;
    view = c.self.view_is;
    watched = c.self.invariant;
    barred = λ bars. let told = c.in-Refused.ensures.barred bars in
        (ap (outcome_of (entries_in c.self.inside.floor.board.history) c.args.call) told.0, told.1);
    applied = c.in-Refused.ensures.applied;
    lanes = c.call.ensures.lanes;
    feeds = c.call.ensures.feeds;
  };
  is = refl;
}

abbrev waits : (g : _) (c : After-want g) → TurnEnds g.L.MessageLog.CHUNK g.M.Message.SURE c.call.new.self c.self.inside.seats c.args.seat
    (ended.Waits c.want.result)
waits g c = record {
  room = c.args.self.now;
  before = c.self.inside.floor;
  call = c.args.call;
  outcome = WouldWait c.in-WouldWait.call;
  turned = record {
    may = c.requires;
    view = c.self.view_is;
    watched = c.self.invariant;
    barred = λ bars. let told = c.in-WouldWait.ensures.barred bars in
        (ap (outcome_of (entries_in c.self.inside.floor.board.history) c.args.call) told.0, told.1);
    applied = c.in-WouldWait.ensures.applied;
    lanes = c.call.ensures.lanes;
    feeds = c.call.ensures.feeds;
  };
  is = ap ended.Waits c.want.ensures;
}

pub returns-in-Reply-clause-asks : goal.returns-in-Reply-clause-asks
returns-in-Reply-clause-asks g c =
    subst
    (λ n. Asks g.L.MessageLog.CHUNK g.M.Message.SURE ⊤ c.args.self.now (with_seats c.call.new.self c.finish_turn.new.seats) c.args.seat
    c.args.call (Answered (record { call = c.args.call; reply = c.in-Reply.reply; at = n })))
    (ap (λ (r : RoomShown g.row.M.Denot). entries_in r.board.history) c.self.view_is)
    (c.finish_turn.ensures.asks (answered g (goal.at.returns-in-Reply-clause-asks g c).In-Reply))

pub returns-in-Reply-clause-turns : goal.returns-in-Reply-clause-turns
returns-in-Reply-clause-turns g c = c.finish_turn.ensures.turns (answered g (goal.at.returns-in-Reply-clause-turns g c).In-Reply)

pub returns-in-Refused-clause-asks : goal.returns-in-Refused-clause-asks
returns-in-Refused-clause-asks g c =
    c.finish_turn-in-Refused.ensures.asks (failed g (goal.at.returns-in-Refused-clause-asks g c).In-Refused)

pub returns-in-Refused-clause-turns : goal.returns-in-Refused-clause-turns
returns-in-Refused-clause-turns g c =
    c.finish_turn-in-Refused.ensures.turns (failed g (goal.at.returns-in-Refused-clause-turns g c).In-Refused)

pub returns-then-finish_turn-clause-asks : goal.returns-then-finish_turn-clause-asks
returns-then-finish_turn-clause-asks g c =
    c.if-finish_turn.ensures.asks (waits g (goal.at.returns-then-finish_turn-clause-asks g c).After-want)

pub returns-then-finish_turn-clause-turns : goal.returns-then-finish_turn-clause-turns
returns-then-finish_turn-clause-turns g c =
    c.if-finish_turn.ensures.turns (waits g (goal.at.returns-then-finish_turn-clause-turns g c).After-want)

pub returns-else-finish_turn-clause-asks : goal.returns-else-finish_turn-clause-asks
returns-else-finish_turn-clause-asks g c =
    c.if-finish_turn.ensures.asks (waits g (goal.at.returns-else-finish_turn-clause-asks g c).After-want)

pub returns-else-finish_turn-clause-turns : goal.returns-else-finish_turn-clause-turns
returns-else-finish_turn-clause-turns g c =
    c.if-finish_turn.ensures.turns (waits g (goal.at.returns-else-finish_turn-clause-turns g c).After-want)
