use Rattle.std.proofs.Common.{◌+◌, arith}
use Rattle.cml_log.proofs.LeastLemmas.{least-le_end}
use Rattle.cml_log.proofs.places.trim_to_least.Goals as goal

pub trim-requires-clause-within : goal.trim-requires-clause-within
trim-requires-clause-within g c =
    omega (arith, c.len.ensures, c.least_place-least.ensures, least-le_end (c.args.first.now + c.len.result) c.args.places.now.slots)
