use Rattle.std.proofs.Common.{◌<◌, sym, ap, subst, ◌∙◌}
use Rattle.cml_log.specs.{trimmed, with_item, next_of, chunk_of, log_of}
use Rattle.cml_log.proofs.ChunkLogLemmas.{TrimsTo, pushed_trims}
use Rattle.cml_log.proofs.AheadLemmas.{IsAhead-passed, IsAhead-pushed}
use Rattle.cml_log.proofs.chunk_log.ChunkLogMessageLog.push.Goals.{After-pass_idle}
use Rattle.cml_log.proofs.chunk_log.ChunkLogMessageLog.push.Goals as goal

pushes : (g : _) (c : After-pass_idle g) → TrimsTo g.row.N c.pass_idle.new.self c.self.inside.cursors
    (with_item (log_of g.row.N c.self.inside.chain c.self.inside.cursors) c.args.item)
pushes g c =
    pushed_trims g.row.N c.self.inside.chain c.self.inside.cursors c.self.invariant.is_trim c.push.new.self c.pass_idle.new.self
    c.args.item c.in_ok-push.ensures.ok
    (subst (λ m. next_of m.log < 18446744073709551614) (sym c.self.view_is) c.requires) c.pass_idle.ensures.passed c.pass_idle.ensures.idle

pub invariant_of-self-2 : goal.invariant_of-self-2
invariant_of-self-2 g c =
    let trim = (pushes g (goal.at.invariant_of-self-2 g c).After-pass_idle).trim in
    record {
      is_trim = trim;
      is_ahead = IsAhead-passed g.row.N c.push.new.self c.pass_idle.new.self c.self.inside.cursors trim.is_held
          c.pass_idle.ensures.passed
          (IsAhead-pushed g.row.N c.self.inside.chain c.push.new.self c.self.inside.cursors c.args.item
          c.self.invariant.is_trim.is_held c.in_ok-push.ensures.ok c.self.invariant.is_ahead);
    }

pub returns-clause-ok : goal.returns-clause-ok
returns-clause-ok g c = (pushes g (goal.at.returns-clause-ok g c).After-pass_idle).log
    ∙ ap (λ m. trimmed (chunk_of g.row.N) (with_item m.log c.args.item)) c.self.view_is
