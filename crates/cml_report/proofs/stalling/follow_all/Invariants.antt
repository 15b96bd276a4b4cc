use Rattle.std.proofs.Common.{◌≡◌}
use Rattle.cml_report.proofs.stalling.follow_all.Given as goal

abbrev pub invariant-loop : goal.invariant-loop
invariant-loop l = record {
  script : l.follower.script ≡ l.script;
  journal : l.follower.journal ≡ l.journal;
  followed : l.follower.followed ≡ l.counter;
}
