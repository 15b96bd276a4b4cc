use Rattle.cml_report.specs.{is_laid, history_of}
use Rattle.cml_report.proofs.StallingLemmas.{ArePassed}
use Rattle.cml_report.proofs.follower.Follower.passed_laid.Given as goal

abbrev pub invariant-loop-i : goal.invariant-loop-i
invariant-loop-i l = ArePassed (is_laid l.self.script) l.self.script (history_of l.self) l.i l.passed
