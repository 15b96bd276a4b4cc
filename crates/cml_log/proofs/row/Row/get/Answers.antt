use Rattle.std.proofs.Common.{◌≤◌, sym, ap, subst, ◌∙◌}
use Rattle.std.specs.Prelude.{option_copied}
use Rattle.std.specs.List.{slice_get}
use Rattle.std.proofs.lemmas.Bool.{ltb-false}
use Rattle.std.proofs.lemmas.List.{get_or_past}
use Rattle.cml_log.specs.declared.row.Slot.TheVariants.{Empty}
use Rattle.cml_log.proofs.RowLemmas.{item_in, none_in, slot_shows}
use Rattle.cml_log.proofs.row.Row.get.Goals as goal

pub returns-in_err-item : goal.returns-in_err-item
returns-in_err-item g c =
    let low = subst (λ w. w.taken ≤ c.args.slot) (sym c.self.view_is) c.requires in
    let none = get_or_past c.self.inside.places c.args.slot Empty (ltb-false _ _ (sym c.in_err-item.ensures.lookup.0)) in
    ap option_copied c.from_residual.ensures ∙ sym (ap item_in none) ∙ slot_shows c.self.inside.places c.args.slot c.self.invariant.1 low
    ∙ ap (λ w. slice_get w.items c.args.slot) c.self.view_is

pub returns-in-Full : goal.returns-in-Full
returns-in-Full g c =
    let low = subst (λ w. w.taken ≤ c.args.slot) (sym c.self.view_is) c.requires in
    ap item_in (sym c.in-Full.is ∙ c.in_ok-item.ensures.lookup.3.1 Empty)
    ∙ slot_shows c.self.inside.places c.args.slot c.self.invariant.1 low
    ∙ ap (λ w. slice_get w.items c.args.slot) c.self.view_is

pub returns-in_default : goal.returns-in_default
returns-in_default g c =
    let low = subst (λ w. w.taken ≤ c.args.slot) (sym c.self.view_is) c.requires in
    none_in c.in_ok-item.field-0.now c.in_default.not-Full ∙ ap item_in (c.in_ok-item.ensures.lookup.3.1 Empty)
    ∙ slot_shows c.self.inside.places c.args.slot c.self.invariant.1 low
    ∙ ap (λ w. slice_get w.items c.args.slot) c.self.view_is
