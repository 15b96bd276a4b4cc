use Rattle.std.proofs.Common.{ap, ◌∙◌}
use Rattle.cml_lanes.specs.{SlotsShown, is_barred, behind}
use Rattle.cml_lanes.proofs.PortsLemmas.{none_barred}
use Rattle.cml_lanes.proofs.feed_slots.FeedSlots.bars.Goals as goal

pub returns-then-is_empty : goal.returns-then-is_empty
returns-then-is_empty g c =
    none_barred c.self.inside.ports.keys (behind c.self.inside.closed c.self.inside.slots.items) c.args.call.now c.self.invariant.0
    (c.is_empty.ensures.0 c.if-is_empty.true)
    ∙ ap (λ (s : SlotsShown g.row.M.Denot). is_barred s.feeds c.args.call.now) c.self.view_is
