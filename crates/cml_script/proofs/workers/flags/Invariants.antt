use Rattle.std.proofs.Common.{◌≡◌, ◌≤◌, vec_len, vec_capacity}
use Rattle.cml_script.proofs.workers.flags.Given as goal

abbrev pub invariant-loop : goal.invariant-loop
invariant-loop l = record {
  made : vec_len l.flags ≡ l.counter;
  room : l.count ≤ vec_capacity l.flags;
}
