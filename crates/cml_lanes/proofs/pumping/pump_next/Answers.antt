use Rattle.std.proofs.Common.{rules}
use Rattle.cml_lanes.proofs.pumping.pump_next.Goals as goal

pub returns-in-Reply-clause-pumped : goal.returns-in-Reply-clause-pumped
returns-in-Reply-clause-pumped g c = search rules

pub returns-clause-balked : goal.returns-clause-balked
returns-clause-balked g c = search rules
