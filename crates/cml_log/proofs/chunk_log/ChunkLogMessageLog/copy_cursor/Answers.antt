use Rattle.std.proofs.Common.{sym, ap, subst, ◌∙◌, arith}
use Rattle.cml_log.specs.{place_of, Opens, log_of, IsAhead}
use Rattle.cml_log.proofs.StandingLemmas.{standing-le}
use Rattle.cml_log.proofs.CursorsLemmas.{place_shown}
use Rattle.cml_log.proofs.ChunkLogLemmas.{opened_trim, opened_log}
use Rattle.cml_log.proofs.AheadLemmas.{ahead_of, IsAhead-recounted, IsAhead-opened}
use Rattle.cml_log.proofs.chunk_log.ChunkLogMessageLog.copy_cursor.Goals as goal

pub enter-requires : goal.enter-requires
enter-requires g c =
    let few = standing-le g.row.N c.get-original.result.at.number c.self.inside.cursors in (
      omega arith,
      (
        (c.self.invariant.is_trim.is_held.held c.k.inside.0 c.get-original.result c.get-original.ensures).lies,
        omega (
          arith,
          few,
          c.self.invariant.is_trim.is_held.counts c.get-original.result.at.number,
          c.in_ok-key.ensures.counted,
          c.len.ensures,
        ),
      ),
    )

pub invariant_of-self-2 : goal.invariant_of-self-2
invariant_of-self-2 g c =
    record {
      is_trim = opened_trim g.row.N c.self.inside.chain c.self.inside.cursors c.self.invariant.is_trim
          c.add.new.self c.in_ok-key.key c.get-original.result c.enter.new.self
          (c.self.invariant.is_trim.is_held.held c.k.inside.0 c.get-original.result c.get-original.ensures)
          c.in_ok-key.ensures.vacant c.in_ok-key.ensures.added c.in_ok-key.ensures.others c.enter.ensures;
      is_ahead = subst (λ m. IsAhead g.row.N m c.add.new.self) (sym c.enter.ensures)
          (IsAhead-recounted g.row.N c.self.inside.chain c.add.new.self _ _ _
          (IsAhead-opened g.row.N c.self.inside.chain c.self.inside.cursors c.add.new.self c.in_ok-key.key
          c.get-original.result c.self.invariant.is_ahead
          (ahead_of g.row.N c.self.inside.chain c.self.inside.cursors c.k.inside.0 c.get-original.result
          c.self.invariant.is_ahead c.get-original.ensures)
          c.in_ok-key.ensures.added c.in_ok-key.ensures.others));
    }

pub returns-clause-ok : goal.returns-clause-ok
returns-clause-ok g c =
    let place = sym (place_shown g.row.N c.self.inside.chain c.self.inside.cursors c.k.inside.0 c.get-original.result
    c.get-original.ensures) ∙ ap (λ k. place_of (log_of g.row.N c.self.inside.chain c.self.inside.cursors) k) c.k.view_is in
    subst (λ m. Opens m.log (log_of g.row.N c.enter.new.self c.add.new.self) c.in_ok-key.key (place_of m.log c.args.k))
    c.self.view_is
    (subst (λ p. Opens (log_of g.row.N c.self.inside.chain c.self.inside.cursors)
    (log_of g.row.N c.enter.new.self c.add.new.self) c.in_ok-key.key p) place
    (opened_log g.row.N c.self.inside.chain c.self.inside.cursors c.self.invariant.is_trim c.add.new.self
    c.in_ok-key.key c.get-original.result c.enter.new.self
    (c.self.invariant.is_trim.is_held.held c.k.inside.0 c.get-original.result c.get-original.ensures)
    c.in_ok-key.ensures.vacant c.in_ok-key.ensures.added c.in_ok-key.ensures.others c.enter.ensures))
