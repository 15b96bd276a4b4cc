use Rattle.std.proofs.Common.{◌≡◌, [], ◌∷◌, ap, sym, subst, ◌∙◌}
use Rattle.cml_journal.specs.{Summed, and_bytes, Form, sums, with_line_end}
use Rattle.cml_journal.proofs.SumsLemmas.{parts_summed}
use Rattle.cml_journal.proofs.lines.sum_line.Goals as goal

pub returns-in-Sealed : goal.returns-in-Sealed
returns-in-Sealed c =
    let summing = c.args.summing.now in
    let line = c.args.line.now in
    subst (λ (form : Form). c.add-in-Sealed.new.self ≡ sums form summing (with_line_end line)) (sym c.in-Sealed.is)
    (c.add-in-Sealed.ensures ∙ ap (λ (s : Summed). and_bytes s (10 ∷ [])) c.add.ensures ∙ parts_summed summing line (10 ∷ []))
