use Rattle.std.proofs.Common.{◌++◌, ℕ, List, sym, ap, ◌∙◌, append_assoc}
use Rattle.std.proofs.lemmas.Result.{err_from_is_err_and}
use Rattle.cml_journal.proofs.CheckLemmas.{goes_on, halts_later}
use Rattle.cml_journal.proofs.check.Check.take_lines.Goals as goal

pub returns-in_err-rest-clause-halted : goal.returns-in_err-rest-clause-halted
returns-in_err-rest-clause-halted g c =
    let p = err_from_is_err_and c.from_residual.result c.from_residual.ensures.1 in
    let (taken, cut, goes, same) = c.loop-rest.invariant in
    rw (p.1, p.2) (halts_later g.M.Written.VERSION g.M.Written.meaning c.args.self.now c.loop-rest.self c.take_line.new.self
    c.args.bytes.now taken c.loop-rest.rest.now c.in_err-rest.field-0.0 cut goes c.in_err-rest.ensures.halted)

pub loop-rest-preserved : goal.loop-rest-preserved
loop-rest-preserved g c =
    let (taken, cut, goes, same) = c.loop-rest.invariant in
    let (more, next, on) = c.in_ok-rest.ensures.taken in (
      taken ++ more,
      cut ∙ ap (λ (b : List ℕ). taken ++ b) next ∙ sym (append_assoc taken more c.in_ok-rest.rest.now),
      goes_on g.M.Written.VERSION g.M.Written.meaning c.args.self.now c.loop-rest.self c.take_line.new.self taken more goes on,
      c.in_ok-rest.ensures.halt ∙ same,
    )
