use Rattle.std.proofs.Common.{rules}
use Rattle.cml_script.proofs.RunLemmas.{keeps_untold}
use Rattle.cml_report.proofs.ReadLemmas.{kept}
use Rattle.cml_script.proofs.running.run_as.Goals as goal

pub returns-in-Err : goal.returns-in-Err
returns-in-Err g c = search (rules, keeps_untold, kept)
