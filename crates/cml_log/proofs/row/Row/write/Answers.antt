use Rattle.std.proofs.Common.{◌∷◌, [], ◌++◌, length, set, sym, ap, ◌∙◌}
use Rattle.cml_log.specs.declared.row.Slot.TheVariants.{Full}
use Rattle.cml_log.specs.{reach}
use Rattle.cml_log.proofs.RowLemmas.{IsRow-next, written-next, reach-next}
use Rattle.cml_log.proofs.row.Row.write.Goals as goal

pub invariant_of-self : goal.invariant_of-self
invariant_of-self g c =
    let next = c.requires.next ∙ ap (λ w. length w.items) (sym c.self.view_is) in
    IsRow-next g.row.N c.args.slot c.self.inside.places c.args.item c.self.invariant next

pub returns : goal.returns
returns g c =
    let next = c.requires.next ∙ ap (λ w. length w.items) (sym c.self.view_is) in
    ap (λ items. record { items = items; taken = reach (set c.self.inside.places c.args.slot (Full c.args.item)) })
    (written-next g.row.N c.args.slot c.self.inside.places c.args.item c.self.invariant next c.requires.within
    ∙ ap (λ w. w.items ++ c.args.item ∷ []) c.self.view_is)
    ∙ ap (λ taken. record { items = c.args.self.now.items ++ c.args.item ∷ []; taken = taken })
    (reach-next g.row.N c.args.slot c.self.inside.places c.args.item c.self.invariant next ∙ ap (λ w. w.taken) c.self.view_is)
