-- One line more of a text, whether it fits or not.
use Rattle.std.proofs.Common.{◌≡◌, ℕ, ◌+◌, ◌⊎◌, inl, inr, List, ◌∷◌, Ok, Err, sym, ap, ◌∙◌}
use Rattle.cml_grammar.specs.{parts_of}
use Rattle.cml_grammar.proofs.LinesLemmas.{some_part}
use Rattle.cml_chart.specs.{What, SoFar, Told, told_by, told_from, with_text, wrong_at}
use Rattle.cml_chart.specs.declared.report.faults.What.TheVariants.{Memory}

-- what a text is, by its first line
by_line : (read : SoFar) (k : ℕ) (text line rest : List ℕ) → parts_of text ≡ line ∷ parts_of rest
    → told_from read k (parts_of text) ≡ told_by (λ later. told_from later (k + 1) (parts_of rest)) k (with_text read line)
by_line read k text line rest cut =
    let p = some_part rest in
    ap (told_from read k) cut
    ∙ ap (λ ps. told_from read k (line ∷ ps)) p.2
    ∙ ap (λ ps. told_by (λ later. told_from later (k + 1) ps) k (with_text read line)) (sym p.2)

-- a line that fits leads on
pub reads_on : (whole : Told) (read next : SoFar) (k : ℕ) (text line rest : List ℕ) → told_from read k (parts_of text) ≡ whole
    → parts_of text ≡ line ∷ parts_of rest → with_text read line ≡ Ok next → told_from next (k + 1) (parts_of rest) ≡ whole
reads_on whole read next k text line rest so_far cut fits =
    sym (ap (told_by (λ later. told_from later (k + 1) (parts_of rest)) k) fits) ∙ sym (by_line read k text line rest cut) ∙ so_far

-- one that doesn't is the fault, unless memory was refused
pub stops : (whole : Told) (read : SoFar) (what : What) (k : ℕ) (text line rest : List ℕ) → told_from read k (parts_of text) ≡ whole
    → parts_of text ≡ line ∷ parts_of rest → (what ≡ Memory) ⊎ (with_text read line ≡ Err what)
    → (what ≡ Memory) ⊎ (whole ≡ wrong_at k what)
stops whole read what k text line rest so_far cut (inl memory) = inl memory
stops whole read what k text line rest so_far cut (inr fault) =
    inr (sym so_far ∙ by_line read k text line rest cut ∙ ap (told_by (λ later. told_from later (k + 1) (parts_of rest)) k) fault)
