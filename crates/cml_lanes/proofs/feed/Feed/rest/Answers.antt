use Rattle.std.proofs.Common.{rules}
use Rattle.cml_lanes.proofs.feed.Feed.rest.Goals as goal

pub returns : goal.returns
returns g c = search rules
