use Rattle.std.proofs.Common.{◌+◌, refl, arith}
use Rattle.cml_report.specs.{WaitsOrIsDone, history_of}
use Rattle.cml_report.proofs.FollowerLemmas.{followed_at}
use Rattle.cml_report.proofs.StallingLemmas.{one_more, all_threads}
use Rattle.cml_report.proofs.follower.Follower.all_wait.Goals as goal

pub loop-thread-preserved : goal.loop-thread-preserved
loop-thread-preserved c =
    let follower = c.args.self.now in
    one_more (λ k. WaitsOrIsDone follower.script (history_of follower) (k + 1)) c.loop-thread.thread c.loop-thread.invariant
    (c.if-not-waits.ensures.0 refl)

pub returns : goal.returns
returns c =
    let follower = c.args.self.now in
    let follows = followed_at c.self.view_is c.self.invariant in
    let counts = c.self.inside.counts in (
      λ yes. all_threads follower.script (history_of follower) follows.known.seats
          (λ k lt. c.loop-thread.invariant k (omega (arith, lt, c.loop-thread-test.false, follows.counted.seats, counts.ok.0))),
      λ all. refl,
    )
