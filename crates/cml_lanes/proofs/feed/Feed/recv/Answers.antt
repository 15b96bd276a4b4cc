use Rattle.std.proofs.Common.{rules}
use Rattle.cml_lanes.proofs.feed.Feed.recv.Goals as goal

pub returns-clause-got : goal.returns-clause-got
returns-clause-got g c = search rules

pub returns-clause-none : goal.returns-clause-none
returns-clause-none g c = search rules
