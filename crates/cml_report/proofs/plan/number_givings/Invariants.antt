use Rattle.std.proofs.Common.{◌≡◌, ℕ, ◌+◌, ◌<◌, ◌≤◌, length, slice_get, Some}
use Rattle.cml_grammar.specs.{names_before}
use Rattle.cml_report.specs.{given_by}
use Rattle.cml_report.proofs.plan.number_givings.Given as goal

abbrev pub invariant-loop-step : goal.invariant-loop-step
invariant-loop-step l = record {
  short : length l.givings.items ≡ l.step-index;
  names : l.names ≡ names_before l.script.declarations l.script.steps l.step-index;
  few : l.names ≤ 1048576 + l.step-index;
  each : (i : ℕ) → i < length l.givings.items → slice_get l.givings.items i ≡ Some (given_by l.script i);
}
