use Rattle.cml_lanes.proofs.KeptFeedsLemmas.{begins}
use Rattle.cml_lanes.proofs.floor.Floor.new.Goals as goal

pub invariant_of-result : goal.invariant_of-result
invariant_of-result g c = begins c.args.board.history c.new.result c.new-2.result.feeds c.requires c.new.ensures c.new-2.ensures
