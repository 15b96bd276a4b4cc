use Rattle.cml.proofs.CommandLineLemmas.{told_asked}
use Rattle.cml.proofs.command_line.order.Goals as goal

pub returns-clause-asked : goal.returns-clause-asked
returns-clause-asked g c = told_asked _ c.read.result c.read.ensures
