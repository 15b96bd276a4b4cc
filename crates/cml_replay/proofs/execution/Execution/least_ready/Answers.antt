use Rattle.std.proofs.Common.{◌+◌, subst, sym, arith}
use Rattle.cml_replay.specs.{IsLeastBelow}
use Rattle.cml_replay.proofs.StandLemmas.{stands_at}
use Rattle.cml_replay.proofs.ReadyLemmas.{least_at_first, least_more, least_of_all}
use Rattle.cml_replay.proofs.execution.Execution.least_ready.Goals as goal

pub loop-thread-init : goal.loop-thread-init
loop-thread-init c =
    least_at_first c.args.self.now.script c.args.self.now.history (stands_at c.self.view_is c.self.invariant.0).known.seats

pub loop-thread-preserved : goal.loop-thread-preserved
loop-thread-preserved c =
    subst (IsLeastBelow c.args.self.now.script c.args.self.now.history (c.loop-thread.thread + 1)) (sym c.earlier_of-least.ensures)
    (least_more c.args.self.now.script c.args.self.now.history c.loop-thread.thread c.loop-thread.least c.candidate.result
    c.loop-thread.invariant c.candidate.ensures)

pub returns : goal.returns
returns c =
    least_of_all c.args.self.now.script c.args.self.now.history
    (stands_at c.self.view_is c.self.invariant.0).known.seats c.loop-thread.least
    (subst (λ n. IsLeastBelow c.args.self.now.script c.args.self.now.history n c.loop-thread.least)
    (omega (arith, c.self.invariant.0.counted.seats, c.self.inside.counts.ok.0)) c.loop-thread.invariant)
