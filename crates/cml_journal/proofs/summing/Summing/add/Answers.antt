use Rattle.std.proofs.Common.{sym, ap, ◌∙◌, ◌++◌}
use Rattle.cml_journal.specs.{Summed, and_bytes, nothing_summed}
use Rattle.cml_journal.proofs.SumsLemmas.{hasher_at, parts_summed}
use Rattle.cml_journal.proofs.summing.Summing.add.Goals as goal

pub returns : goal.returns
returns c =
    let bytes = c.args.bytes.now in
    let (text, holds) = c.self.invariant in
    hasher_at c.update.new.self (text ++ bytes) (c.update.ensures text holds)
    ∙ sym (parts_summed nothing_summed text bytes)
    ∙ ap (λ (s : Summed). and_bytes s bytes) (sym (hasher_at c.self.inside.hasher text holds) ∙ c.self.view_is)
