use Rattle.std.proofs.Common.{length}
use Rattle.cml_chart.proofs.following.+perform.Given as goal

abbrev pub decreases-perform : goal.decreases-perform
decreases-perform l = length l.threads.now
