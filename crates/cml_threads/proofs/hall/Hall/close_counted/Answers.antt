use Rattle.cml_lanes.proofs.DeedsLemmas.{closes_counted}
use Rattle.cml_threads.proofs.AddedEntriesLemmas.{was_counted}
use Rattle.cml_threads.proofs.hall.Hall.close_counted.Goals as goal

pub count_since-requires : goal.count_since-requires
count_since-requires g c =
    was_counted c.self.inside.room c.count_entries-before.ensures c.self.invariant c.close_counted-told.ensures.stirs.seats
    (closes_counted g.L.MessageLog.CHUNK g.M.Message.SURE _ _ c.args.end c.close_counted-told.result c.close_counted-told.ensures.closes)

pub returns-clause-closes : goal.returns-clause-closes
returns-clause-closes g c = rw (← c.self.view_is) c.close_counted-told.ensures.closes
