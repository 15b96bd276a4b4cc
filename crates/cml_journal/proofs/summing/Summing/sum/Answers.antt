use Rattle.std.proofs.Common.{ℕ, List, sym, ap, ◌∙◌}
use Rattle.cml_journal.specs.{Sum, sum_by}
use Rattle.cml_journal.proofs.SumsLemmas.{hasher_at, whole_sum}
use Rattle.cml_journal.proofs.summing.Summing.sum.Goals as goal

pub returns : goal.returns
returns c =
    let (text, holds) = c.self.invariant in
    let made : List ℕ → Sum = λ bytes. record { 0 = bytes } in
    ap made (c.finalize.ensures text (rw c.in_ok-hasher.ensures.cases holds))
    ∙ sym (whole_sum text)
    ∙ ap sum_by (sym (hasher_at c.self.inside.hasher text holds) ∙ c.self.view_is)
