use Rattle.std.proofs.Common.{ℕ, List, ◌++◌, ◌∷◌, ◌+◌, take, slice_index, ap, sym, ◌∙◌}
use Rattle.std.proofs.lemmas.List.{take_rest}
use Rattle.cml_journal.proofs.LineEndsLemmas.{no_line_end, line_end_parts}
use Rattle.cml_journal.proofs.reader.cut_line.Goals as goal

pub returns-in_err-at : goal.returns-in_err-at
returns-in_err-at c = rw c.from_residual.ensures (no_line_end c.args.bytes.now (sym c.end_at.ensures ∙ c.in_err-at.was))

pub returns : goal.returns
returns c =
    let bytes = c.args.bytes.now in
    let at = c.in_ok-at.at in
    let parts = line_end_parts bytes at (sym c.end_at.ensures ∙ c.in_ok-at.was) in
    (parts.0 ∙ ap (λ (r : List ℕ). take at bytes ++ slice_index bytes at ∷ r) (sym (take_rest bytes (at + 1))), parts.1, parts.2)
