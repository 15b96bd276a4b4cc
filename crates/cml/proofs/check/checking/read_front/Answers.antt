use Rattle.std.proofs.lemmas.Grind.{common_steps}
use Rattle.std.proofs.Common.{◌≡◌, ◌≤◌, true, length, length-append, subst, sym, ap, arith}
use Rattle.std.specs.Io.KnownBytes.{Consumes}
use Rattle.std.proofs.KnownBytes.{Consumes-trans}
use Rattle.std.proofs.lemmas.Result.{err_from_is_err_and, IfErr-weaker}
use Rattle.cml.specs.declared.check.ending.Ending.TheVariants.{BehindCut}
use Rattle.cml.specs.{EndsInFront, is_behind_cut}
use Rattle.cml.proofs.EndingsLemmas.{cut_in_front, read_on_from, silent_in_front}
use Rattle.cml.proofs.check.checking.read_front.Goals as goal

pub returns-in_err-read_more-clause-ended : goal.returns-in_err-read_more-clause-ended
returns-in_err-read_more-clause-ended g c =
    let p = err_from_is_err_and c.from_residual.result c.from_residual.ensures.1 in
    let ended = c.in_err-read_more.ensures.ended in
    rw (p.1, p.2) (silent_in_front (g.R.Read.remaining c.args.input.now)
    (g.R.Read.remaining c.read_more.new.input) c.in_err-read_more.field-0.0 ended.0
    (read_on_from (g.R.Read.remaining c.args.input.now) (g.R.Read.remaining c.loop.input)
    (g.R.Read.remaining c.read_more.new.input) c.loop.front.items c.loop.invariant.given ended.1))

pub returns-then-branch-clause-ended : goal.returns-then-branch-clause-ended
returns-then-branch-clause-ended g c =
    let old = g.R.Read.remaining c.args.input.now in
    let new = g.R.Read.remaining c.read_more.new.input in
    let front = c.read_more.new.front.items in
    let (bytes, more, same, few) = c.in_ok-read_more.ensures.more in
    let given : Consumes old new front = subst (Consumes old new) (sym same)
    (Consumes-trans old (g.R.Read.remaining c.loop.input) new c.loop.front.items bytes c.loop.invariant.given more) in
    let most : length front ≤ 15 = grind (arith, common_steps, ap length same, length-append c.loop.front.items bytes, few) in
    IfErr-weaker c.uncut-then-branch.result (λ ending. (ending ≡ BehindCut) × (is_behind_cut front ≡ true))
    (λ ending. EndsInFront old new ending)
    (λ ending cut. cut_in_front old new front ending given most cut) c.uncut-then-branch.ensures.cut
