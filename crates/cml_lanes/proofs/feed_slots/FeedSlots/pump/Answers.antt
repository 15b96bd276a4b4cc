use Rattle.std.proofs.Common.{ap, arith}
use Rattle.cml_lanes.specs.{SlotsShown, behind}
use Rattle.cml_lanes.proofs.BehindLemmas.{opened_within, found_behind, placed_behind}
use Rattle.cml_lanes.proofs.FeedPlacesLemmas.{pump_ports}
use Rattle.cml_lanes.proofs.feed_slots.FeedSlots.pump.Goals as goal

pub index_mut-requires : goal.index_mut-requires
index_mut-requires g c = omega (
  arith,
  opened_within c.self.inside.closed c.args.number c.self.inside.slots.items c.args.self.now.feeds
      (ap (λ (s : SlotsShown g.row.M.Denot). s.feeds) c.self.view_is) c.requires.opened,
)

pub pump_slot-requires : goal.pump_slot-requires
pump_slot-requires g c =
    let here = found_behind c.self.inside.closed c.args.number c.self.inside.slots.items c.args.self.now.feeds
    (ap (λ (s : SlotsShown g.row.M.Denot). s.feeds) c.self.view_is) c.requires.opened
    c.index_mut.result.now c.index_mut.ensures.value in
    record { side = here.0; opened = here.1; keeps = c.requires.kept here.0 here.2 }

pub invariant_of-self : goal.invariant_of-self
invariant_of-self g c = (
  pump_ports g.L.MessageLog.CHUNK g.M.Message.SURE c.args.number c.pump_slot.result.0 c.pump_slot.result.1 c.args.board.now
      c.pump_slot.new.board c.self.inside.ports.keys
      (behind c.self.inside.closed c.self.inside.slots.items) c.args.self.now.feeds _
      (ap (λ (s : SlotsShown g.row.M.Denot). s.feeds) c.self.view_is)
      (placed_behind c.self.inside.closed c.args.number c.self.inside.slots.items c.args.self.now.feeds
      (ap (λ (s : SlotsShown g.row.M.Denot). s.feeds) c.self.view_is) c.requires.opened
      c.index_mut.result.now c.index_mut.ensures.value c.pump_slot.new.slot _ c.pump_slot.ensures) c.self.invariant.0,
  c.self.invariant.1,
)

pub returns : goal.returns
returns g c =
    placed_behind c.self.inside.closed c.args.number c.self.inside.slots.items c.args.self.now.feeds
    (ap (λ (s : SlotsShown g.row.M.Denot). s.feeds) c.self.view_is) c.requires.opened
    c.index_mut.result.now c.index_mut.ensures.value c.pump_slot.new.slot _ c.pump_slot.ensures
