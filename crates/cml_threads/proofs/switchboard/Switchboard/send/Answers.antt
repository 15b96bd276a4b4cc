use Rattle.std.proofs.Common.{rules}
use Rattle.cml_threads.proofs.switchboard.Switchboard.send.Goals as goal

pub returns : goal.returns
returns g c = search rules
