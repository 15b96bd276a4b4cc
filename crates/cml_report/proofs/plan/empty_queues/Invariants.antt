use Rattle.std.proofs.Common.{◌≡◌, ◌≤◌, vec_capacity, length, []}
use Rattle.std.specs.Prelude.{All}
use Rattle.cml_report.proofs.plan.empty_queues.Given as goal

abbrev pub invariant-loop : goal.invariant-loop
invariant-loop l = record {
  count : length l.queues.items ≡ l.counter;
  room : 64 ≤ vec_capacity l.queues;
  empty : All (λ queue. queue.items ≡ []) l.queues.items;
}
