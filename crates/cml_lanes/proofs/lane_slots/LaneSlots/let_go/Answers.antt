use Rattle.std.proofs.Common.{◌∙◌, ap, sym, arith, List, Option, None, slice_set}
use Rattle.cml_lanes.specs.{LaneSide}
use Rattle.cml_lanes.proofs.BehindLemmas.{opened_from, one_less, set_behind}
use Rattle.cml_lanes.proofs.lane_slots.LaneSlots.let_go.Goals as goal

pub overflow_sub-self : goal.overflow_sub-self
overflow_sub-self g c =
    omega (
      arith,
      c.self.invariant.0,
      one_less c.self.inside.closed c.args.number c.self.inside.slots.items c.args.self.now
          c.self.view_is c.requires,
    )

pub invariant_of-self : goal.invariant_of-self
invariant_of-self g c = (
  omega (
    arith,
    c.self.invariant.0,
    one_less c.self.inside.closed c.args.number c.self.inside.slots.items c.args.self.now c.self.view_is
        c.requires,
  ),
  c.self.invariant.1,
)

pub returns : goal.returns
returns g c =
    let from = opened_from c.self.inside.closed c.args.number c.self.inside.slots.items c.args.self.now c.self.view_is c.requires in
    sym (set_behind c.self.inside.closed c.args.number c.self.inside.slots.items None from)
    ∙ ap (λ (ls : List (Option (LaneSide g.row.M.Denot))). slice_set ls c.args.number None) c.self.view_is
