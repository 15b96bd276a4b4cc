use Rattle.std.proofs.Common.{sym, ap, ◌∙◌}
use Rattle.cml_log.specs.{chunk_start}
use Rattle.cml_log.proofs.CursorsLemmas.{chunk_of-within, trim_first}
use Rattle.cml_log.proofs.chunk_log.ChunkLogMessageLog.first.Goals as goal

pub returns-clause-starts_chunk : goal.returns-clause-starts_chunk
returns-clause-starts_chunk g c =
    c.first.ensures
    ∙ trim_first g.row.N c.self.inside.chain c.self.inside.cursors c.self.invariant.is_trim.is_held c.self.invariant.is_trim.trim
    ∙ ap (λ m. chunk_start g.row.N m.log) c.self.view_is
    ∙ ap (λ n. chunk_start n c.args.self.now.log)
    (sym (chunk_of-within g.row.N c.self.invariant.is_trim.is_held.holds_one c.self.invariant.is_trim.is_held.small))
