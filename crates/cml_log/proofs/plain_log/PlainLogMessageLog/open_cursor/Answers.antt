use Rattle.std.proofs.Common.{ap}
use Rattle.cml_log.specs.Log.{Log}
use Rattle.cml_log.specs.{chunk_of}
use Rattle.cml_log.proofs.PlainLogLemmas.{IsSound-open_cursor}
use Rattle.cml_log.proofs.plain_log.PlainLogMessageLog.open_cursor.Goals as goal

pub invariant_of-self-2 : goal.invariant_of-self-2
invariant_of-self-2 g c =
    let l : Log g.row.T.Denot =
    record { first = c.self.inside.first; kept = c.self.inside.items.items; places = c.self.inside.places.slots } in
    IsSound-open_cursor (chunk_of g.row.N) l c.args.self.now _ c.reserve.new.self c.insert_reserved.new.self
    c.insert_reserved.result c.next-next.result
    c.self.invariant c.self.view_is (ap (λ s. s.slots) c.reserve.ensures.rest_kept) c.insert_reserved.ensures.was_vacant
    c.insert_reserved.ensures.updates c.next-next.ensures
