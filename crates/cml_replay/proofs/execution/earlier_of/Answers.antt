use Rattle.std.proofs.Common.{rules}
use Rattle.cml_replay.proofs.execution.earlier_of.Goals as goal

pub returns-in-Some-Some : goal.returns-in-Some-Some
returns-in-Some-Some c = search rules
