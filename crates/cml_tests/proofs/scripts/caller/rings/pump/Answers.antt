use Rattle.std.proofs.Common.{rules, ◌≡◌, length}
use Rattle.cml_lanes.proofs.DeedsLemmas.{pumps}
use Rattle.cml_tests.proofs.FloorLemmas.{unasked}
use Rattle.cml_tests.proofs.scripts.caller.rings.pump.Goals as goal

pub returns : goal.returns
returns c =
    let many : length c.pump.new.self.feeds ≡ length c.args.floor.now.feeds = search rules in
    unasked c.args.floor.now c.pump.new.self many
    (pumps _ _ c.args.feed c.args.floor.now c.pump.new.self c.pump.result c.pump.ensures.pumps)
