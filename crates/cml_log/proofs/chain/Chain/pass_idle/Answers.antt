use Rattle.std.proofs.Common.{◌≡◌, ◌+◌, ◌/◌, true, sym, ap, subst, ◌∙◌, arith}
use Rattle.cml_log.specs.{end_of, is_idle, Passed}
use Rattle.cml_log.proofs.PassedLemmas.{idle_before, end_of-passed, Passed-more}
use Rattle.cml_log.proofs.chain.Chain.pass_idle.Goals as goal

pub loop-self-smaller : goal.loop-self-smaller
loop-self-smaller g c =
    let idle : is_idle g.row.N c.loop-self.self ≡ true = sym c.is_idle.ensures ∙ c.loop-self-test.true in
    let before = idle_before g.row.N c.loop-self.self idle in
    let end = ap (λ m. end_of g.row.N m / g.row.N) c.pass_head.ensures
    ∙ ap (λ n. n / g.row.N) (end_of-passed g.row.N c.loop-self.self (c.loop-self.self.followed + 1) before) in
    let given = ap (λ m. m.given) c.pass_head.ensures in
    omega (arith, before, end, given)

pub loop-self-preserved : goal.loop-self-preserved
loop-self-preserved g c =
    let idle : is_idle g.row.N c.loop-self.self ≡ true = sym c.is_idle.ensures ∙ c.loop-self-test.true in
    subst (Passed g.row.N c.args.self.now) (sym c.pass_head.ensures)
    (Passed-more g.row.N c.args.self.now c.loop-self.self c.loop-self.invariant idle)
