use Rattle.std.proofs.Common.{map, subst, sym}
use Rattle.cml.specs.{HasOrder}
use Rattle.cml.proofs.CommandLineLemmas.{taken, understood}
use Rattle.cml.proofs.command_line.read.Goals as goal

pub unreachable-requires : goal.unreachable-requires
unreachable-requires g c =
    let asks = understood _ c.in_ok-matches.ensures.fails in
    let lost = c.in-None.ensures asks.0
    (subst (λ f. HasOrder f asks.0) (sym c.in_ok-matches.ensures.found) (taken (map g.S.AsStr.text c.args.words.now) asks.0 asks.1).0.1) in
    cc lost
