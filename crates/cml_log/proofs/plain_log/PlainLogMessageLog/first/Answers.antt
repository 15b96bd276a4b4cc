use Rattle.std.proofs.Common.{ap, ◌∙◌}
use Rattle.cml_log.specs.{chunk_start, chunk_of}
use Rattle.cml_log.proofs.plain_log.PlainLogMessageLog.first.Goals as goal

pub returns-clause-starts_chunk : goal.returns-clause-starts_chunk
returns-clause-starts_chunk g c = c.self.invariant.tidy.first ∙ ap (λ l. chunk_start (chunk_of g.row.N) l) c.self.view_is
