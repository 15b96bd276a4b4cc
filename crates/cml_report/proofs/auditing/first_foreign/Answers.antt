use Rattle.std.proofs.lemmas.Bool.{false≢true}
use Rattle.cml_report.proofs.ListLemmas.{read_at}
use Rattle.cml_report.proofs.FollowerLemmas.{own_at}
use Rattle.cml_report.proofs.auditing.first_foreign.Goals as goal

pub returns-then-not-is_own : goal.returns-then-not-is_own
returns-then-not-is_own c =
    let so_far = c.loop-k.invariant in
    let entry = c.index-entries-k.result in
    record {
      entry = entry;
      stands = read_at c.args.entries.now c.loop-k.k entry c.loop-k-test.true c.index-entries-k.is;
      own = so_far.own;
      foreign = λ own. false≢true (c.if-not-is_own.ensures.1 (own_at c.loop-k.follower c.args.script.now c.args.entries.now c.loop-k.k entry
          so_far.script so_far.journal so_far.followed own));
    }
