use Rattle.cml_report.specs.{is_apart, is_by_ring, history_of}
use Rattle.cml_report.proofs.StallingLemmas.{kept_within, passed_on, apart_at}
use Rattle.cml_report.proofs.follower.Follower.passed_apart.Goals as goal

pub loop-i-preserved : goal.loop-i-preserved
loop-i-preserved c =
    let follower = c.args.self.now in
    let lines = (rw c.script.ensures at c.steps-i-end.ensures).lines in
    let within = kept_within _ follower c.steps-i-end.result.now c.loop-i.i c.self.view_is lines c.loop-i-test.true in
    passed_on (is_apart follower.script) is_by_ring follower.script (history_of follower) c.loop-i.i _ _ _
    (apart_at follower.script c.loop-i.i) within
    c.loop-i.invariant c.from-passed.ensures c.is_passed_apart.ensures
