use Rattle.std.proofs.Common.{rules}
use Rattle.cml_report.proofs.writing.write_played.Goals as goal

pub returns-in-Err : goal.returns-in-Err
returns-in-Err c = search rules
