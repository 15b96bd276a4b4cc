use Rattle.std.proofs.Common.{rules, ap, ◌∙◌}
use Rattle.cml_lanes.specs.{FeedSide, is_feeds_port}
use Rattle.cml_lanes.proofs.FeedOpensLemmas.{own_new_port, feed_opened_keeps, feed_opened_rings}
use Rattle.cml_lanes.proofs.floor.Floor.open_feed.Goals as goal

pub add-requires-clause-own : goal.add-requires-clause-own
add-requires-clause-own g c =
    ap (λ (s : FeedSide g.row.M.Denot). is_feeds_port c.reserve.new.self.feeds s.port.0) c.new-2.ensures
    ∙ own_new_port c.count-number.result c.self.inside.board c.make_port.new.board c.args.channel c.in_ok-port.port
    c.self.inside.feeds.feeds c.reserve.new.self.feeds
    c.in_ok-port.ensures.made c.self.invariant.1 c.reserve.ensures.feeds

pub invariant_of-self-2 : goal.invariant_of-self-2
invariant_of-self-2 g c =
    feed_opened_keeps c.count-number.result c.self.inside.board c.make_port.new.board c.args.channel c.in_ok-port.port c.self.inside.lanes
    c.self.inside.feeds.feeds c.reserve.new.self.feeds c.add.new.self.feeds c.new-2.result c.in_ok-port.ensures.made
    c.in_default.ensures.lawful c.count-number.ensures c.reserve.ensures.feeds
    c.add.ensures (ap (λ (s : FeedSide g.row.M.Denot). s.port) c.new-2.ensures)
    (ap (λ (s : FeedSide g.row.M.Denot). s.pushed) c.new-2.ensures) c.self.invariant

pub returns-clause-rings : goal.returns-clause-rings
returns-clause-rings g c =
    feed_opened_rings c.self.inside.board c.make_port.new.board c.self.inside.feeds.feeds c.reserve.new.self.feeds c.add.new.self.feeds
    c.new-2.result c.args.self.now c.self.view_is
    c.reserve.ensures.feeds c.add.ensures

pub returns-clause-opens : goal.returns-clause-opens
returns-clause-opens g c = search rules
