use Rattle.std.proofs.Common.{ap, is_some, sym, ◌∙◌, length}
use Rattle.cml_lanes.specs.{laned, FloorShown}
use Rattle.cml_lanes.proofs.OneLaneLemmas.{empties_off}
use Rattle.cml_lanes.proofs.floor.Floor.close_counted.Goals as goal

pub returns-clause-closes : goal.returns-clause-closes
returns-clause-closes g c = (
  (
    c.drain_open.result.0,
    empties_off g.L.MessageLog.CHUNK g.M.Message.SURE c.number-lane.result c.args.end.number c.drain_open.result.0 c.args.self.now
        c.drain_open.new.self c.let_go.new.self c.drain_open.result.1 c.number-lane.ensures
        (ap is_some c.in_default.is) c.drain_open.ensures.until c.let_go.ensures.floor,
  ),
  ap (λ (f : FloorShown g.row.M.Denot). length (laned f.board.history c.args.end.number)) c.let_go.ensures.floor
      ∙ ap (λ number. length (laned c.drain_open.new.self.board.history number)) (sym c.number-lane.ensures)
      ∙ sym c.moved_count.ensures ∙ c.if-moved_count-count.false ∙ c.count.ensures,
)
