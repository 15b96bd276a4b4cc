use Rattle.std.proofs.Common.{◌≡◌, ◌+◌, length}
use Rattle.cml_report.specs.{declared_count}
use Rattle.cml_replay.proofs.perform.perform_all.Given as goal

abbrev pub invariant-loop : goal.invariant-loop
invariant-loop l = record {
  script : l.execution.script ≡ l.fn.execution.script;
  limit : l.execution.limit ≡ l.fn.execution.limit;
  performed : length l.execution.history ≡ declared_count l.execution.script + l.counter;
}
