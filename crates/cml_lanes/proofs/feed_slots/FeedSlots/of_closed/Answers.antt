use Rattle.std.proofs.Common.{None, ap, ◌∙◌, arith}
use Rattle.cml_lanes.specs.{behind}
use Rattle.cml_lanes.proofs.BehindLemmas.{copies_alone}
use Rattle.cml_lanes.proofs.RestoringLemmas.{closed_ports}
use Rattle.cml_lanes.proofs.feed_slots.FeedSlots.of_closed.Goals as goal

pub invariant_of-result : goal.invariant_of-result
invariant_of-result g c = (
  closed_ports c.new-2.result.keys (behind c.args.count c.new.result.items) c.args.count c.new-2.ensures.empty
      (ap (behind c.args.count) c.new.ensures.items ∙ copies_alone None c.args.count),
  omega arith,
)
