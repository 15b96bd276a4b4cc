use Rattle.std.proofs.Common.{rules}
use Rattle.cml_lanes.proofs.feed_slots.FeedSlots.bars_some.Goals as goal

pub returns-in_default : goal.returns-in_default
returns-in_default g c = search rules
