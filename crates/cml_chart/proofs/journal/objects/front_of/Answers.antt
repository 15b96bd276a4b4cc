use Rattle.std.proofs.Common.{◌≤◌, ℕ, List, length, sym, subst, arith}
use Rattle.std.proofs.lemmas.List.{length-take-le}
use Rattle.cml_chart.proofs.journal.objects.front_of.Goals as goal

pub slice_bounds-front-end : goal.slice_bounds-front-end
slice_bounds-front-end c =
    sym (length-take-le 64 c.as_bytes.result.now
    (subst (λ (bytes : List ℕ). 64 ≤ length bytes) (sym c.as_bytes.ensures.value) (omega (arith, c.requires))))
