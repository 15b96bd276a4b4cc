use Rattle.std.proofs.Common.{◌≡◌, true}
use Rattle.cml_script.proofs.DeclareLemmas.{IsDeclaring}
use Rattle.cml_script.proofs.declaring.declare.Given as goal

abbrev pub invariant-loop-declaration : goal.invariant-loop-declaration
invariant-loop-declaration g l = record {
  goes_on : g.C.Caller.goes_on l.caller ≡ true;
  declaring : IsDeclaring l.plan l.declaration-index (g.C.Caller.made l.caller);
}
