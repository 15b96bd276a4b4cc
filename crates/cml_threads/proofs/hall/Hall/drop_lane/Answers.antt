use Rattle.cml_lanes.proofs.DeedsLemmas.{drops}
use Rattle.cml_threads.proofs.AddedEntriesLemmas.{was_counted}
use Rattle.cml_threads.proofs.hall.Hall.drop_lane.Goals as goal

pub count_since-requires : goal.count_since-requires
count_since-requires g c =
    was_counted c.self.inside.room c.count_entries-before.ensures c.self.invariant c.drop_lane-told.ensures.stirs.seats
    (drops g.L.MessageLog.CHUNK g.M.Message.SURE c.args.lane _ _ c.drop_lane-told.result c.drop_lane-told.ensures.drops)

pub returns-clause-rings : goal.returns-clause-rings
returns-clause-rings g c = rw (← c.self.view_is) c.drop_lane-told.ensures.rings
