use Rattle.std.proofs.Common.{◌==◌, ◌∷◌, ◌+◌, take, ap, sym, ◌∙◌, arith, length-drop}
use Rattle.std.proofs.lemmas.List.{take_rest}
use Rattle.std.proofs.lemmas.List.Quantifiers.{position-Some}
use Rattle.cml_grammar.specs.{parts_of}
use Rattle.cml_grammar.proofs.ListLemmas.{slice_split-none, slice_split-some}
use Rattle.cml_grammar.proofs.read.cut_line.Goals as goal

pub returns-in_err-end : goal.returns-in_err-end
returns-in_err-end c =
    rw c.from_residual.ensures (slice_split-none (λ byte. byte == 10) c.args.text.now (sym c.line_end.ensures ∙ c.in_err-end.was))

pub returns : goal.returns
returns c =
    let text = c.args.text.now in
    let end = c.in_ok-end.end in
    let found = sym c.line_end.ensures ∙ c.in_ok-end.was in
    let within = (position-Some (λ byte. byte == 10) text end 0 found).0 in
    let rest = take_rest text (end + 1) in (
      slice_split-some (λ byte. byte == 10) text end found ∙ ap (λ later. take end text ∷ parts_of later) (sym rest),
      rw rest (omega (arith, within, length-drop (end + 1) text)),
    )
