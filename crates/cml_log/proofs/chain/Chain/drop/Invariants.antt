use Rattle.std.proofs.Common.{◌-◌, ◌/◌}
use Rattle.cml_log.specs.{end_of}
use Rattle.cml_log.proofs.chain.Chain.drop.Given as goal

abbrev pub invariant-loop-chain : goal.invariant-loop-chain
invariant-loop-chain g l = Unit {0}

abbrev pub decreases-loop-chain : goal.decreases-loop-chain
decreases-loop-chain g l = end_of g.row.N l.chain / g.row.N - l.chain.given
