use Rattle.std.proofs.Common.{rules, ◌≡◌, length}
use Rattle.cml_lanes.proofs.DeedsLemmas.{closes_counted}
use Rattle.cml_tests.proofs.FloorLemmas.{unasked}
use Rattle.cml_tests.proofs.scripts.caller.rings.finish.Goals as goal

pub returns : goal.returns
returns c =
    let many : length c.close_counted.new.self.feeds ≡ length c.args.floor.now.feeds = search rules in
    unasked c.args.floor.now c.close_counted.new.self many
    (closes_counted _ _ c.args.floor.now c.close_counted.new.self c.in-Some.end c.close_counted.result c.close_counted.ensures.closes)
