use Rattle.std.proofs.Common.{◌≡◌, length, sym, ap, ◌∙◌}
use Rattle.std.proofs.lemmas.Option.{same_Some}
use Rattle.cml_lanes.specs.{LaneSide}
use Rattle.cml_lanes.proofs.BehindLemmas.{found_behind}
use Rattle.cml_lanes.proofs.lane_slots.LaneSlots.moved_count.Goals as goal

pub returns : goal.returns
returns g c = λ side found.
    let here = found_behind c.self.inside.closed c.args.number c.self.inside.slots.items c.args.self.now c.self.view_is c.requires
    c.index.result.now c.index.ensures in
    let same : c.in-Some.inner ≡ side = same_Some _ _ (sym c.in-Some.is ∙ here.1) ∙ same_Some _ _ (same_Some _ _ (sym here.2 ∙ found)) in
    c.count.ensures ∙ ap (λ (s : LaneSide g.row.M.Denot). length s.received) same
