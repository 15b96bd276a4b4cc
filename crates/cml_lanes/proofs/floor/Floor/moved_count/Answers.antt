use Rattle.std.proofs.Common.{length, sym, ap, ◌∙◌}
use Rattle.cml_lanes.specs.{laned, FloorShown, is_open_lane}
use Rattle.cml_lanes.proofs.SlotsLemmas.{taken_slot}
use Rattle.cml_lanes.proofs.floor.Floor.moved_count.Goals as goal

pub returns : goal.returns
returns g c =
    let lane = taken_slot c.self.inside.lanes c.args.lane
    (ap (λ (f : FloorShown g.row.M.Denot). is_open_lane f c.args.lane) c.self.view_is ∙ c.requires) in
    c.moved_count.ensures lane.0 lane.1 ∙ ap length (sym (c.self.invariant.0.lane c.args.lane lane.0 lane.1).laned)
    ∙ ap (λ (f : FloorShown g.row.M.Denot). length (laned f.board.history c.args.lane)) c.self.view_is
