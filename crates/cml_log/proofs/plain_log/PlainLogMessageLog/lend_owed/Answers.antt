use Rattle.cml_log.proofs.LogLemmas.{first-le_place}
use Rattle.cml_log.specs.{chunk_of}
use Rattle.cml_log.proofs.plain_log.PlainLogMessageLog.lend_owed.Goals as goal

pub overflow_sub-passed : goal.overflow_sub-passed
overflow_sub-passed g c =
    first-le_place (chunk_of g.row.N) _ c.k.inside.0 c.index.result.now c.self.invariant.tidy c.index.ensures
