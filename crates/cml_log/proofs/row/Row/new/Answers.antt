use Rattle.std.proofs.Common.{[], ap, ◌∙◌}
use Rattle.cml_log.specs.declared.row.Slot.TheVariants.{Empty}
use Rattle.cml_log.specs.{reach}
use Rattle.cml_log.proofs.RowLemmas.{IsRow-none, written-none, reach-none}
use Rattle.cml_log.proofs.row.Row.new.Goals as goal

pub invariant_of-result : goal.invariant_of-result
invariant_of-result g c =
    IsRow-none g.row.N c.from_fn.result c.from_fn.ensures.items.long (λ slot below. (c.from_fn.ensures.items.at slot Empty below).2.met)

pub returns : goal.returns
returns g c =
    ap (λ items. record { items = items; taken = reach c.from_fn.result })
    (written-none g.row.N c.from_fn.result c.from_fn.ensures.items.long
    (λ slot below. (c.from_fn.ensures.items.at slot Empty below).2.met))
    ∙ ap (λ taken. record { items = []; taken = taken }) (reach-none g.row.N c.from_fn.result
    c.from_fn.ensures.items.long (λ slot below. (c.from_fn.ensures.items.at slot Empty below).2.met))
