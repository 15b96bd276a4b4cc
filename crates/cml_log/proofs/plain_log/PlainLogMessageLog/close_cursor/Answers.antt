use Rattle.cml_log.specs.{chunk_of}
use Rattle.cml_log.proofs.LogLemmas.{IsTrimmable}
use Rattle.cml_log.proofs.PlainLogLemmas.{ready_to_close, starts_before, IsSound-by_trim}
use Rattle.cml_log.proofs.plain_log.PlainLogMessageLog.close_cursor.Goals.{After-remove}
use Rattle.cml_log.proofs.plain_log.PlainLogMessageLog.close_cursor.Goals as goal

ready : (g : _) (c : After-remove g) → IsTrimmable (chunk_of g.row.N)
    (record { first = c.self.inside.first; kept = c.self.inside.items.items; places = c.remove.new.self.slots })
ready g c = ready_to_close (chunk_of g.row.N) _ c.args.self.now c.k.inside.0 c.args.k c.remove.new.self.slots
    c.self.invariant.tidy c.self.view_is c.k.view_is c.requires c.remove.ensures.slots

pub trim_to_least-requires-clause-kept : goal.trim_to_least-requires-clause-kept
trim_to_least-requires-clause-kept g c =
    starts_before _ (ready g (goal.at.trim_to_least-requires-clause-kept g c).After-remove) c.CHUNK.ensures

pub invariant_of-self : goal.invariant_of-self
invariant_of-self g c =
    IsSound-by_trim _ _ _ c.self.invariant (ready g (goal.at.invariant_of-self g c).After-remove) c.CHUNK.ensures
    c.trim_to_least.ensures.log c.trim_to_least.ensures.capacity
