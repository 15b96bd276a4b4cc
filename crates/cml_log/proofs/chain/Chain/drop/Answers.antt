use Rattle.std.proofs.Common.{◌+◌, ◌/◌, sym, ap, ◌∙◌, arith}
use Rattle.std.proofs.lemmas.Bool.{ltb-true}
use Rattle.cml_log.specs.{end_of}
use Rattle.cml_log.proofs.PassedLemmas.{end_of-passed}
use Rattle.cml_log.proofs.chain.Chain.drop.Goals as goal

pub loop-chain-smaller : goal.loop-chain-smaller
loop-chain-smaller g c =
    let before =
    ltb-true c.loop-chain.chain.given (end_of g.row.N c.loop-chain.chain / g.row.N) (sym c.has_next.ensures ∙ c.loop-chain-test.true) in
    let end = ap (λ m. end_of g.row.N m / g.row.N) c.pass_head.ensures
    ∙ ap (λ n. n / g.row.N) (end_of-passed g.row.N c.loop-chain.chain (c.loop-chain.chain.followed + 1) before) in
    let given = ap (λ m. m.given) c.pass_head.ensures in
    omega (arith, before, end, given)
