use Rattle.std.proofs.Common.{sym, ◌∙◌}
use Rattle.cml_lanes.proofs.OneFeedLemmas.{open_feed_slot, its_own_port, ends_feed, end_keeps, end_rings}
use Rattle.cml_lanes.proofs.floor.Floor.end_feed.Goals as goal

pub end-requires-clause-own : goal.end-requires-clause-own
end-requires-clause-own g c = its_own_port c.args.feed c.self.inside.board.history c.self.inside.feeds.feeds c.self.invariant.1

pub invariant_of-self : goal.invariant_of-self
invariant_of-self g c =
    let taken = open_feed_slot c.args.feed c.self.inside.board c.self.inside.feeds.feeds c.args.self.now c.self.view_is
    (sym c.has_feed.ensures ∙ c.if-has_feed.true) in
    end_keeps c.args.feed c.self.inside.board c.self.inside.lanes c.self.inside.feeds.feeds c.end.new.self.feeds taken
    c.end.ensures.feeds c.self.invariant

pub returns-then-has_feed-clause-ends : goal.returns-then-has_feed-clause-ends
returns-then-has_feed-clause-ends g c =
    let taken = open_feed_slot c.args.feed c.self.inside.board c.self.inside.feeds.feeds c.args.self.now c.self.view_is
    (sym c.has_feed.ensures ∙ c.if-has_feed.true) in
    ends_feed c.args.feed c.self.inside.board c.self.inside.feeds.feeds c.end.new.self.feeds c.args.self.now c.end.result c.self.view_is
    taken c.self.invariant.1 c.end.ensures.feeds
    c.end.ensures.ended

pub returns-then-has_feed-clause-rings : goal.returns-then-has_feed-clause-rings
returns-then-has_feed-clause-rings g c =
    let taken = open_feed_slot c.args.feed c.self.inside.board c.self.inside.feeds.feeds c.args.self.now c.self.view_is
    (sym c.has_feed.ensures ∙ c.if-has_feed.true) in
    end_rings c.args.feed c.self.inside.board c.self.inside.feeds.feeds c.end.new.self.feeds c.args.self.now
    c.self.view_is taken c.end.ensures.feeds
