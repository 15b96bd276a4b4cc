use Rattle.std.proofs.Common.{◌≡◌, drop}
use Rattle.cml_grammar.specs.{first_of}
use Rattle.cml_grammar.proofs.checks.first_of.Given as goal

abbrev pub invariant-loop-holds : goal.invariant-loop-holds
invariant-loop-holds l = first_of (drop l.holds-index l.tests) ≡ first_of l.tests
