use Rattle.std.proofs.Common.{subst, sym, ap, ◌∙◌}
use Rattle.cml_lanes.specs.{FloorShown, is_open_lane, KeepsLanes}
use Rattle.cml_lanes.proofs.KeptLanesLemmas.{let_go_keeps}
use Rattle.cml_lanes.proofs.OneLaneLemmas.{gone_rings}
use Rattle.cml_lanes.proofs.floor.Floor.let_go.Goals as goal

pub invariant_of-self : goal.invariant_of-self
invariant_of-self g c = (
  subst (λ ls. KeepsLanes c.self.inside.board.history ls) (sym c.let_go.ensures)
      (let_go_keeps c.args.lane c.self.inside.board.history c.self.inside.lanes c.self.invariant.0),
  c.self.invariant.1,
)

pub returns-clause-rings : goal.returns-clause-rings
returns-clause-rings g c =
    gone_rings c.args.lane c.self.inside.board c.self.inside.lanes c.let_go.new.self c.args.self.now c.self.view_is
    (ap (λ (f : FloorShown g.row.M.Denot). is_open_lane f c.args.lane) c.self.view_is ∙ c.requires) c.let_go.ensures
