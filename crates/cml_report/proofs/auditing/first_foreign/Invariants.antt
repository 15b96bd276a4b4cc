use Rattle.std.proofs.Common.{◌≡◌}
use Rattle.cml_board.specs.{before}
use Rattle.cml_report.specs.{IsOfScript}
use Rattle.cml_report.proofs.auditing.first_foreign.Given as goal

abbrev pub invariant-loop-k : goal.invariant-loop-k
invariant-loop-k l = record {
  script : l.follower.script ≡ l.script;
  journal : l.follower.journal ≡ l.entries;
  followed : l.follower.followed ≡ l.k;
  own : IsOfScript l.script (before l.entries l.k);
}
