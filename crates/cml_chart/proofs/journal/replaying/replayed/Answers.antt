use Rattle.std.proofs.Common.{◌++◌, ℕ, List, sym, ap, ◌∙◌, append_assoc}
use Rattle.cml_chart.proofs.journal.replaying.replayed.Goals as goal

pub loop-rest-preserved : goal.loop-rest-preserved
loop-rest-preserved g c =
    let (taken, cut, so) = c.loop-rest.invariant in
    let (more, next, on) = c.in_ok-rest.ensures.taken in (
      taken ++ more,
      cut ∙ ap (λ (b : List ℕ). taken ++ b) next ∙ sym (append_assoc taken more c.in_ok-rest.rest.now),
      on taken so,
    )
