use Rattle.std.proofs.Common.{rules}
use Rattle.cml_report.proofs.ending.status_of.Goals as goal

pub returns-in-Full : goal.returns-in-Full
returns-in-Full c = search rules
