use Rattle.std.proofs.Common.{◌≡◌, IfSome, subst, sym, arith}
use Rattle.cml_lanes.specs.{LaneSide, LeavesAll, behind}
use Rattle.cml_lanes.proofs.OneSlotLemmas.{as_many_placed}
use Rattle.cml_lanes.proofs.BehindLemmas.{opened_within, found_behind, placed_behind, holds_behind}
use Rattle.cml_lanes.proofs.lane_slots.LaneSlots.drain_after.Goals as goal

pub index_mut-requires : goal.index_mut-requires
index_mut-requires g c = omega (
  arith,
  opened_within c.self.inside.closed c.args.number c.self.inside.slots.items c.args.self.now
      c.self.view_is c.requires.opened,
)

pub drain_slot_after-requires-clause-slot : goal.drain_slot_after-requires-clause-slot
drain_slot_after-requires-clause-slot g c =
    let here = found_behind c.self.inside.closed c.args.number c.self.inside.slots.items c.args.self.now c.self.view_is c.requires.opened
    c.index_mut.result.now c.index_mut.ensures.value in
    record { side = here.0; opened = here.1; keeps = c.requires.kept here.0 here.2 }

pub drain_slot_after-requires-clause-ring : goal.drain_slot_after-requires-clause-ring
drain_slot_after-requires-clause-ring g c =
    let here = found_behind c.self.inside.closed c.args.number c.self.inside.slots.items c.args.self.now c.self.view_is c.requires.opened
    c.index_mut.result.now c.index_mut.ensures.value in
    subst (λ slot. IfSome slot (λ (side : LaneSide g.row.M.Denot). c.args.end.now.ring ≡ side.ring))
    (sym here.1) (c.requires.ring here.0 here.2)

pub invariant_of-self : goal.invariant_of-self
invariant_of-self g c = (
  as_many_placed c.self.inside.opened (behind c.self.inside.closed c.self.inside.slots.items) c.args.self.now _ c.self.invariant.0
      c.self.view_is
      (placed_behind c.self.inside.closed c.args.number c.self.inside.slots.items c.args.self.now c.self.view_is c.requires.opened
      c.index_mut.result.now c.index_mut.ensures.value c.drain_slot_after.new.slot _ c.drain_slot_after.ensures.until),
  c.self.invariant.1,
)

pub returns-clause-until : goal.returns-clause-until
returns-clause-until g c =
    placed_behind c.self.inside.closed c.args.number c.self.inside.slots.items c.args.self.now c.self.view_is c.requires.opened
    c.index_mut.result.now c.index_mut.ensures.value c.drain_slot_after.new.slot _ c.drain_slot_after.ensures.until

pub returns-clause-all : goal.returns-clause-all
returns-clause-all g c =
    holds_behind c.self.inside.closed c.args.number c.self.inside.slots.items c.args.self.now c.self.view_is c.requires.opened
    c.index_mut.result.now c.index_mut.ensures.value c.drain_slot_after.new.slot (LeavesAll c.args.end.now) c.drain_slot_after.ensures.all
