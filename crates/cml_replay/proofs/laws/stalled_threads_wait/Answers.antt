use Rattle.cml_replay.proofs.GoingOnLemmas.{stalled_wait, some_waits}
use Rattle.cml_replay.proofs.WaitingLemmas.{some_stuck}
use Rattle.cml_replay.proofs.laws.stalled_threads_wait.Goals as goal

pub returns-clause-each : goal.returns-clause-each
returns-clause-each c = stalled_wait

pub returns-clause-some : goal.returns-clause-some
returns-clause-some c = some_waits

pub returns-clause-run : goal.returns-clause-run
returns-clause-run c = some_stuck
