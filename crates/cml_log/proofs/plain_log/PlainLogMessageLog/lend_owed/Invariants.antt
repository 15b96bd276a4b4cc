use Rattle.std.proofs.Common.{◌≡◌, ◌+◌, ◌-◌, ◌≤◌, ◌++◌, drop, length}
use Rattle.std.specs.Prelude.{vec_len, vec_capacity}
use Rattle.cml_log.specs.{lent}
use Rattle.cml_log.proofs.plain_log.PlainLogMessageLog.lend_owed.Given as goal

abbrev pub invariant-loop-at : goal.invariant-loop-at
invariant-loop-at g l = record {
  end : l.at-end ≡ length l.self-inside.items.items;
  lent : lent l.items.items ++ drop l.at l.self-inside.items.items ≡ drop l.passed l.self-inside.items.items;
  room : vec_len l.items + (l.at-end - l.at) ≤ vec_capacity l.items;
}
