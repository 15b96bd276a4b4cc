use Rattle.std.proofs.Common.{◌≡◌, ◌+◌, true}
use Rattle.cml_script.specs.{HasTaken}
use Rattle.cml_script.proofs.worker.work.Given as goal

abbrev pub invariant-loop-nth : goal.invariant-loop-nth
invariant-loop-nth g l = record {
  goes_on : g.C.Caller.goes_on l.caller ≡ true;
  way : HasTaken l.plan (l.thread + 1) l.nth l.course (g.C.Caller.made l.caller);
}
