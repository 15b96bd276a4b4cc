use Rattle.cml_lanes.proofs.DeedsLemmas.{drains}
use Rattle.cml_threads.proofs.AddedEntriesLemmas.{was_counted}
use Rattle.cml_threads.proofs.hall.Hall.drain.Goals as goal

pub count_since-requires : goal.count_since-requires
count_since-requires g c = was_counted c.self.inside.room c.count_entries-before.ensures c.self.invariant c.drain-told.ensures.stirs.seats
    (drains g.L.MessageLog.CHUNK g.M.Message.SURE c.args.lane _ _ c.drain-told.result c.drain-told.ensures.drains)

pub returns-clause-rings : goal.returns-clause-rings
returns-clause-rings g c = rw (← c.self.view_is) c.drain-told.ensures.rings
