use Rattle.cml_lanes.proofs.DeedsLemmas.{pumps}
use Rattle.cml_room.specs.Room as room
use Rattle.cml_threads.proofs.AddedEntriesLemmas.{was_counted}
use Rattle.cml_threads.proofs.hall.Hall.pump.Goals as goal

pub count_since-requires : goal.count_since-requires
count_since-requires g c = was_counted c.self.inside.room c.count_entries-before.ensures c.self.invariant c.pump-told.ensures.stirs.seats
    (pumps g.L.MessageLog.CHUNK g.M.Message.SURE c.args.feed _ (room.floor_of c.pump-told.new.self)
    c.pump-told.result c.pump-told.ensures.pumps)
