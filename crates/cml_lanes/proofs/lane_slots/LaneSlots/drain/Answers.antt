use Rattle.std.proofs.Common.{arith}
use Rattle.cml_lanes.specs.{behind}
use Rattle.cml_lanes.proofs.OneSlotLemmas.{as_many_placed}
use Rattle.cml_lanes.proofs.BehindLemmas.{opened_within, found_behind, placed_behind}
use Rattle.cml_lanes.proofs.lane_slots.LaneSlots.drain.Goals as goal

pub index_mut-requires : goal.index_mut-requires
index_mut-requires g c = omega (
  arith,
  opened_within c.self.inside.closed c.args.number c.self.inside.slots.items c.args.self.now
      c.self.view_is c.requires.opened,
)

pub drain_slot-requires : goal.drain_slot-requires
drain_slot-requires g c =
    let here = found_behind c.self.inside.closed c.args.number c.self.inside.slots.items c.args.self.now c.self.view_is c.requires.opened
    c.index_mut.result.now c.index_mut.ensures.value in
    record { side = here.0; opened = here.1; keeps = c.requires.kept here.0 here.2 }

pub invariant_of-self : goal.invariant_of-self
invariant_of-self g c = (
  as_many_placed c.self.inside.opened (behind c.self.inside.closed c.self.inside.slots.items) c.args.self.now _ c.self.invariant.0
      c.self.view_is
      (placed_behind c.self.inside.closed c.args.number c.self.inside.slots.items c.args.self.now c.self.view_is c.requires.opened
      c.index_mut.result.now c.index_mut.ensures.value c.drain_slot.new.slot _ c.drain_slot.ensures),
  c.self.invariant.1,
)

pub returns : goal.returns
returns g c =
    placed_behind c.self.inside.closed c.args.number c.self.inside.slots.items c.args.self.now c.self.view_is c.requires.opened
    c.index_mut.result.now c.index_mut.ensures.value c.drain_slot.new.slot _ c.drain_slot.ensures
