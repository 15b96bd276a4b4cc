use Rattle.std.proofs.Common.{arith}
use Rattle.std.proofs.lemmas.Grind.{common_steps}
use Rattle.cml_replay.proofs.execution.Execution.is_full.Goals as goal

pub returns-clause-full : goal.returns-clause-full
returns-clause-full c = grind (arith, common_steps)
