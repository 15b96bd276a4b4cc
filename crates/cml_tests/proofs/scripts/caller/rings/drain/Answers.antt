use Rattle.std.proofs.Common.{rules, ◌≡◌, length}
use Rattle.cml_lanes.proofs.DeedsLemmas.{drains}
use Rattle.cml_tests.proofs.FloorLemmas.{unasked}
use Rattle.cml_tests.proofs.scripts.caller.rings.drain.Goals as goal

pub returns : goal.returns
returns c =
    let many : length c.drain.new.self.feeds ≡ length c.args.floor.now.feeds = search rules in
    unasked c.args.floor.now c.drain.new.self many
    (drains _ _ c.args.lane c.args.floor.now c.drain.new.self c.drain.result c.drain.ensures.drains)
