use Rattle.std.proofs.Common.{ap, ◌∙◌, sym, not, cond, [], ◌∷◌, ◌++◌, Some, None}
use Rattle.cml_board.proofs.ListLemmas.{on_ok}
use Rattle.cml_board.specs.{Name}
use Rattle.cml_lanes.specs.{SlotsShown, is_feeds_port, behind}
use Rattle.cml_lanes.proofs.BehindLemmas.{copies_added}
use Rattle.cml_lanes.proofs.FeedPlacesLemmas.{add_ports}
use Rattle.cml_lanes.proofs.feed_slots.FeedSlots.add.Goals as goal

pub invariant_of-self : goal.invariant_of-self
invariant_of-self g c =
    let fine = sym c.is_err.ensures.value ∙ c.if-is_err.false in
    let pushed = ap (λ ok. cond ok (c.self.inside.slots.items ++ Some c.args.feed ∷ []) c.self.inside.slots.items)
    (c.is_err-2.ensures.negation ∙ ap not c.if-is_err-2.false) in
    let closed = c.self.inside.closed in (
      add_ports c.insert.result c.port.result.0 c.self.inside.ports.keys c.insert.new.self.keys
          (behind closed c.self.inside.slots.items)
          (behind closed c.push.new.self.items) c.args.feed fine
          (on_ok c.insert.result fine c.insert.ensures.updates).0 c.insert.ensures.added c.insert.ensures.len
          (ap (λ (n : Name). n.0) c.port.ensures)
          (ap (λ (s : SlotsShown g.row.M.Denot). is_feeds_port s.feeds c.args.feed.port.0) c.self.view_is ∙ c.requires.own)
          (ap (behind closed) (c.push.ensures.items ∙ pushed)
          ∙ copies_added None closed c.self.inside.slots.items (Some c.args.feed)) c.self.invariant.0,
      c.self.invariant.1,
    )
