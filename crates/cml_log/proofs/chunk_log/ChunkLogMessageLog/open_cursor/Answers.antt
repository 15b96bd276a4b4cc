use Rattle.std.proofs.Common.{◌+◌, ◌*◌, ◌≤◌, sym, subst, arith}
use Rattle.cml_log.specs.{next_of, Opens, log_of, IsAhead}
use Rattle.cml_log.proofs.StandingLemmas.{standing-le}
use Rattle.cml_log.proofs.ChunkLogLemmas.{end_held, opened_trim, opened_log}
use Rattle.cml_log.proofs.AheadLemmas.{IsAhead-recounted, IsAhead-opened}
use Rattle.cml_log.proofs.chunk_log.ChunkLogMessageLog.open_cursor.Goals as goal

pub enter-requires : goal.enter-requires
enter-requires g c =
    let few = standing-le g.row.N c.end.result.number c.self.inside.cursors in (
      omega arith,
      (
        c.end.ensures.lies,
        omega (
          arith,
          few,
          c.self.invariant.is_trim.is_held.counts c.end.result.number,
          c.in_ok-key.ensures.counted,
          c.len.ensures,
        ),
      ),
    )

pub invariant_of-self-2 : goal.invariant_of-self-2
invariant_of-self-2 g c =
    record {
      is_trim = opened_trim g.row.N c.self.inside.chain c.self.inside.cursors c.self.invariant.is_trim
          c.add.new.self c.in_ok-key.key (record { at = c.end.result; place = c.next.result }) c.enter.new.self
          (end_held g.row.N c.self.inside.chain c.self.inside.cursors c.self.invariant.is_trim
          (record { at = c.end.result; place = c.next.result }) c.end.ensures.number c.end.ensures.lies c.next.ensures)
          c.in_ok-key.ensures.vacant c.in_ok-key.ensures.added c.in_ok-key.ensures.others c.enter.ensures;
      is_ahead = subst (λ m. IsAhead g.row.N m c.add.new.self) (sym c.enter.ensures)
          (IsAhead-recounted g.row.N c.self.inside.chain c.add.new.self _ _ _
          (IsAhead-opened g.row.N c.self.inside.chain c.self.inside.cursors c.add.new.self c.in_ok-key.key
          (record { at = c.end.result; place = c.next.result }) c.self.invariant.is_ahead
          (subst (λ p. g.row.N * c.self.inside.chain.given + c.self.inside.chain.taken ≤ p) (sym c.next.ensures)
          c.self.invariant.is_ahead.part)
          c.in_ok-key.ensures.added c.in_ok-key.ensures.others));
    }

pub returns-clause-ok : goal.returns-clause-ok
returns-clause-ok g c =
    subst (λ m. Opens m.log (log_of g.row.N c.enter.new.self c.add.new.self) c.in_ok-key.key (next_of m.log))
    c.self.view_is
    (subst (λ p. Opens (log_of g.row.N c.self.inside.chain c.self.inside.cursors)
    (log_of g.row.N c.enter.new.self c.add.new.self) c.in_ok-key.key p) c.next.ensures
    (opened_log g.row.N c.self.inside.chain c.self.inside.cursors c.self.invariant.is_trim c.add.new.self
    c.in_ok-key.key (record { at = c.end.result; place = c.next.result }) c.enter.new.self
    (end_held g.row.N c.self.inside.chain c.self.inside.cursors c.self.invariant.is_trim
    (record { at = c.end.result; place = c.next.result }) c.end.ensures.number c.end.ensures.lies c.next.ensures)
    c.in_ok-key.ensures.vacant c.in_ok-key.ensures.added c.in_ok-key.ensures.others c.enter.ensures))
