use Rattle.std.proofs.Common.{List, Option, slice_set, sym, ap, subst, ◌∙◌, arith}
use Rattle.cml_lanes.specs.{FeedSide, SlotsShown, HasPorts, behind}
use Rattle.cml_lanes.proofs.BehindLemmas.{opened_from, opened_within, or_here, set_behind}
use Rattle.cml_lanes.proofs.FeedPlacesLemmas.{end_ports, end_given}
use Rattle.cml_lanes.proofs.feed_slots.FeedSlots.end.Goals as goal

pub index-requires : goal.index-requires
index-requires g c = omega (
  arith,
  opened_within c.self.inside.closed c.args.number c.self.inside.slots.items c.args.self.now.feeds
      (ap (λ (s : SlotsShown g.row.M.Denot). s.feeds) c.self.view_is) c.requires.opened,
)

pub invariant_of-self : goal.invariant_of-self
invariant_of-self g c =
    let from = opened_from c.self.inside.closed c.args.number c.self.inside.slots.items c.args.self.now.feeds
    (ap (λ (s : SlotsShown g.row.M.Denot). s.feeds) c.self.view_is) c.requires.opened in (
      subst (λ (news : List (Option (FeedSide g.row.M.Denot))). HasPorts c.remove.new.self.keys news)
          (set_behind c.self.inside.closed c.args.number c.self.inside.slots.items c.finish_slot.new.slot from)
          (end_ports c.args.number c.port_of-port.result c.self.inside.ports.keys c.remove.new.self.keys
          (behind c.self.inside.closed c.self.inside.slots.items)
          c.args.self.now.feeds c.index.result.now c.finish_slot.new.slot
          c.remove.result (ap (λ (s : SlotsShown g.row.M.Denot). s.feeds) c.self.view_is) c.requires.opened c.requires.own
          (or_here c.self.inside.closed c.args.number c.self.inside.slots.items c.args.self.now.feeds
          (ap (λ (s : SlotsShown g.row.M.Denot). s.feeds) c.self.view_is) c.requires.opened c.index.result.now c.index.ensures)
          c.port_of-port.ensures c.remove.ensures.test
          c.remove.ensures.updates.0 c.remove.ensures.len c.finish_slot.ensures.emptied c.self.invariant.0),
      c.self.invariant.1,
    )

pub returns-clause-feeds : goal.returns-clause-feeds
returns-clause-feeds g c =
    let from = opened_from c.self.inside.closed c.args.number c.self.inside.slots.items c.args.self.now.feeds
    (ap (λ (s : SlotsShown g.row.M.Denot). s.feeds) c.self.view_is) c.requires.opened in
    sym (set_behind c.self.inside.closed c.args.number c.self.inside.slots.items c.finish_slot.new.slot from)
    ∙ (ap (λ (fs : List (Option (FeedSide g.row.M.Denot))). slice_set fs c.args.number c.finish_slot.new.slot)
    (ap (λ (s : SlotsShown g.row.M.Denot). s.feeds) c.self.view_is)
    ∙ ap (slice_set c.args.self.now.feeds c.args.number) c.finish_slot.ensures.emptied)

pub returns-clause-ended : goal.returns-clause-ended
returns-clause-ended g c =
    end_given c.args.number (behind c.self.inside.closed c.self.inside.slots.items) c.args.self.now.feeds c.index_mut.result.now
    c.finish_slot.result (ap (λ (s : SlotsShown g.row.M.Denot). s.feeds) c.self.view_is) c.requires.opened
    (or_here c.self.inside.closed c.args.number c.self.inside.slots.items c.args.self.now.feeds
    (ap (λ (s : SlotsShown g.row.M.Denot). s.feeds) c.self.view_is) c.requires.opened c.index_mut.result.now c.index_mut.ensures.value)
    c.finish_slot.ensures.ended
