use Rattle.std.proofs.Common.{rules}
use Rattle.cml_report.proofs.auditing.audit.Goals as goal

pub returns-in-Err : goal.returns-in-Err
returns-in-Err c = search rules

pub returns-in-Some : goal.returns-in-Some
returns-in-Some c = search rules
