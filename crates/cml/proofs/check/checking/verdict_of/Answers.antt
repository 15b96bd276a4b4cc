use Rattle.std.proofs.Common.{◌++◌, List, ℕ, string_bytes, subst, sym, ap, ◌∙◌}
use Rattle.cml_journal.specs.{IsLawfulJournal}
use Rattle.cml.specs.{told_sum}
use Rattle.cml.proofs.EndingsLemmas.{told_lawful}
use Rattle.cml.proofs.check.checking.verdict_of.Goals as goal

pub returns : goal.returns
returns g c = λ bytes so is.
    told_lawful g.M.Written.VERSION g.M.Written.meaning g.M.Written.text c.args.wanted bytes c.args.check.now
    c.entries-count.result c.push_str.new.self (string_bytes c.in_ok-objects.objects) c.requires
    (subst (IsLawfulJournal g.M.Written.VERSION g.M.Written.meaning bytes) (sym c.entries-count.ensures) is)
    (c.in_ok-push_str.ensures.bytes ∙ ap (λ (o : List ℕ). string_bytes c.in_ok-lines.lines ++ o) c.deref.ensures
    ∙ ap (λ (l : List ℕ). l ++ string_bytes c.in_ok-objects.objects) (c.in_ok-lines.ensures ∙ ap told_sum c.sum.ensures))
    (c.in_ok-objects.ensures bytes) so
