use Rattle.std.proofs.Common.{rules}
use Rattle.cml_report.proofs.report.write_reply.Goals as goal

pub returns-in-Got : goal.returns-in-Got
returns-in-Got c = search rules
