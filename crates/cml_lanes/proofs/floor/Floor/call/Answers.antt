use Rattle.std.proofs.Common.{ap, sym, ◌∙◌}
use Rattle.cml_board.specs.{entries_in, outcome_of}
use Rattle.cml_lanes.specs.{FloorShown}
use Rattle.cml_lanes.proofs.KeptLanesLemmas.{applied_keeps}
use Rattle.cml_lanes.proofs.KeptFeedsLemmas.{applied_keeps_feeds}
use Rattle.cml_lanes.proofs.EachRingLemmas.{same_rings}
use Rattle.cml_lanes.proofs.floor.Floor.call.Goals as goal

pub invariant_of-self : goal.invariant_of-self
invariant_of-self g c =
    let outcome = outcome_of (entries_in c.self.inside.board.history) c.args.call c.call.result in (
      applied_keeps g.L.MessageLog.CHUNK g.M.Message.SURE c.self.inside.board c.call.new.self c.self.inside.lanes c.args.seat c.args.call
          outcome c.call.ensures c.self.invariant.0,
      applied_keeps_feeds g.L.MessageLog.CHUNK g.M.Message.SURE c.self.inside.board c.call.new.self c.self.inside.feeds.feeds
          c.args.seat c.args.call outcome (sym c.bars.ensures ∙ c.if-bars.false) c.call.ensures c.self.invariant.1,
    )

pub returns-clause-rings : goal.returns-clause-rings
returns-clause-rings g c =
    same_rings c.args.self.now (record { board = c.call.new.self; lanes = c.self.inside.lanes; feeds = c.self.inside.feeds.feeds })
    (ap (λ (f : FloorShown g.row.M.Denot). f.lanes) c.self.view_is) (ap (λ (f : FloorShown g.row.M.Denot). f.feeds) c.self.view_is)
