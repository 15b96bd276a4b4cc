use Rattle.std.proofs.Common.{rules}
use Rattle.cml_report.proofs.report.write_end.Goals as goal

pub returns-in-Done : goal.returns-in-Done
returns-in-Done c = search rules
