use Rattle.std.proofs.Common.{◌≤◌, ℕ, length, sym, subst, ◌∙◌, rules}
use Rattle.cml_store.specs.Texts.{is_whole_text}
use Rattle.cml_file.proofs.JudgingLemmas.{recovered_within}
use Rattle.cml_file.proofs.judging.kept_of.Goals as goal

pub returns-clause-kept : goal.returns-clause-kept
returns-clause-kept g c =
    let text = c.args.text.now in
    c.kept.ensures
    ∙ sym (c.kept_is_recovered.ensures text c.args.check.now.state c.requires.entries (search rules) c.requires.read).0

pub returns-clause-within : goal.returns-clause-within
returns-clause-within g c =
    let text = c.args.text.now in
    let law = c.kept_is_recovered.ensures text c.args.check.now.state c.requires.entries (search rules) c.requires.read in
    subst (λ (n : ℕ). n ≤ length text) (sym (c.kept.ensures ∙ sym law.0))
    (recovered_within (is_whole_text g.M.Written.VERSION g.M.Written.meaning) text)
