use Rattle.std.proofs.Common.{◌-◌, ◌/◌}
use Rattle.cml_log.specs.{end_of, Passed}
use Rattle.cml_log.proofs.chain.Chain.pass_idle.Given as goal

abbrev pub invariant-loop-self : goal.invariant-loop-self
invariant-loop-self g l = Passed g.row.N l.initial.self l.self

abbrev pub decreases-loop-self : goal.decreases-loop-self
decreases-loop-self g l = end_of g.row.N l.self / g.row.N - l.self.given
