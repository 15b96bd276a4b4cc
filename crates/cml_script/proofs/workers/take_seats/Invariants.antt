use Rattle.std.proofs.Common.{◌≡◌, ◌≤◌, vec_len, vec_capacity}
use Rattle.cml_script.proofs.workers.take_seats.Given as goal

abbrev pub invariant-loop : goal.invariant-loop
invariant-loop g l = record {
  made : vec_len l.callers ≡ l.counter;
  room : l.fn.threads ≤ vec_capacity l.callers;
}
