use Rattle.std.proofs.Common.{rules}
use Rattle.cml_threads.proofs.hall.Hall.leave.Goals as goal

pub returns-clause-left : goal.returns-clause-left
returns-clause-left g c = search rules
