use Rattle.std.proofs.Common.{sym, ap, ◌∙◌, Some}
use Rattle.cml_board.specs.{kind_of}
use Rattle.cml_board.proofs.ListLemmas.{on_ok}
use Rattle.cml_lanes.specs.{LaneSide, way_kind}
use Rattle.cml_lanes.proofs.OpensLemmas.{opened_keeps, opened_rings}
use Rattle.cml_lanes.proofs.floor.Floor.open_lane.Goals as goal

pub invariant_of-self-2 : goal.invariant_of-self-2
invariant_of-self-2 g c =
    let side = c.new-inner.ensures in
    opened_keeps c.self.inside.board.history c.self.inside.lanes c.add.new.self c.new-inner.result
    (on_ok c.add.result (sym c.is_err.ensures.value ∙ c.if-is_err.false) c.add.ensures.added)
    c.self.invariant (ap (λ (s : LaneSide g.row.M.Denot). s.received) side)
    (ap (λ (s : LaneSide g.row.M.Denot). kind_of c.self.inside.board.history s.target.0) side ∙ sym c.in-Some.ensures
    ∙ ap Some (sym c.in-Some-to.ensures)
    ∙ sym (ap (λ (s : LaneSide g.row.M.Denot). Some (way_kind s.way)) side))

pub returns-clause-rings : goal.returns-clause-rings
returns-clause-rings g c =
    opened_rings c.self.inside.board c.self.inside.lanes c.add.new.self c.new-inner.result c.args.self.now c.self.view_is
    (on_ok c.add.result (sym c.is_err.ensures.value ∙ c.if-is_err.false) c.add.ensures.added)
