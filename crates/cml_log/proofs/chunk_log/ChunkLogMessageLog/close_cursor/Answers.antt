use Rattle.std.proofs.Common.{set, None, sym, ap, subst, ◌∙◌, arith}
use Rattle.cml_log.specs.{trimmed, with_place, chunk_of, log_of, IsAhead}
use Rattle.cml_log.proofs.CursorsLemmas.{entered}
use Rattle.cml_log.proofs.ChunkLogLemmas.{TrimsTo, closed_trims}
use Rattle.cml_log.proofs.AheadLemmas.{IsAhead-passed, IsAhead-recounted, IsAhead-closed}
use Rattle.cml_log.proofs.chunk_log.ChunkLogMessageLog.close_cursor.Goals.{After-pass_idle}
use Rattle.cml_log.proofs.chunk_log.ChunkLogMessageLog.close_cursor.Goals as goal

closes : (g : _) (c : After-pass_idle g) → TrimsTo g.row.N c.pass_idle.new.self c.remove-cursor.new.self
    (with_place (log_of g.row.N c.self.inside.chain c.self.inside.cursors) c.k.inside.0 None)
closes g c =
    closed_trims g.row.N c.self.inside.chain c.self.inside.cursors c.self.invariant.is_trim c.k.inside.0 c.remove-cursor.result
    c.remove-cursor.ensures.value c.leave.new.self c.pass_idle.new.self c.remove-cursor.new.self
    c.leave.ensures c.remove-cursor.ensures.slots c.pass_idle.ensures.passed c.pass_idle.ensures.idle

pub leave-requires : goal.leave-requires
leave-requires g c =
    let held = c.self.invariant.is_trim.is_held.held c.k.inside.0 c.remove-cursor.result c.remove-cursor.ensures.value in (
      omega arith,
      (
        held.lies,
        entered g.row.N c.self.inside.chain c.self.inside.cursors c.self.invariant.is_trim.is_held c.k.inside.0
            c.remove-cursor.result c.remove-cursor.ensures.value,
      ),
    )

pub invariant_of-self : goal.invariant_of-self
invariant_of-self g c =
    let trim = (closes g (goal.at.invariant_of-self g c).After-pass_idle).trim in
    record {
      is_trim = trim;
      is_ahead = IsAhead-passed g.row.N c.leave.new.self c.pass_idle.new.self c.remove-cursor.new.self trim.is_held
          c.pass_idle.ensures.passed
          (subst (λ m. IsAhead g.row.N m c.remove-cursor.new.self) (sym c.leave.ensures)
          (subst (IsAhead g.row.N _) (sym c.remove-cursor.ensures.slots)
          (IsAhead-recounted g.row.N c.self.inside.chain (set c.self.inside.cursors c.k.inside.0 None)
          c.remove-cursor.result.at.number c.remove-cursor.result.at.at _
          (IsAhead-closed g.row.N c.self.inside.chain c.self.inside.cursors c.k.inside.0 c.self.invariant.is_ahead))));
    }

pub returns-clause-log : goal.returns-clause-log
returns-clause-log g c = (closes g (goal.at.returns-clause-log g c).After-pass_idle).log
    ∙ ap (λ k. trimmed (chunk_of g.row.N) (with_place (log_of g.row.N c.self.inside.chain c.self.inside.cursors) k None)) c.k.view_is
    ∙ ap (λ m. trimmed (chunk_of g.row.N) (with_place m.log c.args.k None)) c.self.view_is
