use Rattle.std.proofs.Common.{[], ◌∙◌}
use Rattle.cml_journal.specs.{nothing_summed}
use Rattle.cml_journal.proofs.SumsLemmas.{hasher_at, nothing_more}
use Rattle.cml_journal.proofs.summing.Summing.new.Goals as goal

pub returns : goal.returns
returns c = hasher_at c.new.result [] c.new.ensures ∙ nothing_more nothing_summed
