use Rattle.std.proofs.Common.{ℕ, ◌<◌}
use Rattle.cml_report.specs.{IsTakenAt}
use Rattle.cml_report.proofs.concluding.takes_what_was_got.Given as goal

abbrev pub invariant-loop-at : goal.invariant-loop-at
invariant-loop-at l = (k : ℕ) → k < l.at → IsTakenAt l.ran.plan.now l.ran.board.now.history l.ran.tally.now k
