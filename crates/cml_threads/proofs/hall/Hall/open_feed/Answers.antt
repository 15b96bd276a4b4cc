use Rattle.cml_lanes.proofs.DeedsLemmas.{opens_feed}
use Rattle.cml_room.specs.Room as room
use Rattle.cml_threads.proofs.AddedEntriesLemmas.{was_counted}
use Rattle.cml_threads.proofs.hall.Hall.open_feed.Goals as goal

pub count_since-requires : goal.count_since-requires
count_since-requires g c =
    was_counted c.self.inside.room c.count_entries-before.ensures c.self.invariant c.open_feed-told.ensures.stirs.seats
    (opens_feed g.L.MessageLog.CHUNK g.M.Message.SURE _ (room.floor_of c.open_feed-told.new.self) c.args.channel c.args.capacity
    c.open_feed-told.result c.open_feed-told.ensures.opens)
