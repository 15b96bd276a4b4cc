use Rattle.std.proofs.Common.{rules}
use Rattle.cml_threads.proofs.switchboard.ask.Goals as goal

pub returns : goal.returns
returns g c = search rules
