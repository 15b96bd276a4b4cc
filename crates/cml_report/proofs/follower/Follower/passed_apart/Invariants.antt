use Rattle.cml_report.specs.{is_apart, history_of}
use Rattle.cml_report.proofs.StallingLemmas.{ArePassed}
use Rattle.cml_report.proofs.follower.Follower.passed_apart.Given as goal

abbrev pub invariant-loop-i : goal.invariant-loop-i
invariant-loop-i l = ArePassed (is_apart l.self.script) l.self.script (history_of l.self) l.i l.passed
