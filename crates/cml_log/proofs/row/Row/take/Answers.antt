use Rattle.std.proofs.Common.{◌≡◌, ◌<◌, ◌≤◌, length, set, get_or, Some, sym, ap, subst, ◌∙◌, arith}
use Rattle.std.specs.List.{slice_get}
use Rattle.cml_log.specs.declared.row.Slot.TheVariants.{Empty, Full, Taken}
use Rattle.cml_log.specs.{reach, written}
use Rattle.cml_log.proofs.RowLemmas.{item_in, full_at, written-taken, reach-taken, IsRow-taken}
use Rattle.cml_log.proofs.row.Row.take.Goals.{After-of}
use Rattle.cml_log.proofs.row.Row.take.Goals as goal

pub unreachable-requires : goal.unreachable-requires
unreachable-requires g c =
    let there = full_at c.self.inside.places c.args.slot (subst (λ w. w.taken ≤ c.args.slot) (sym c.self.view_is) c.requires.left)
    (subst (λ w. c.args.slot < length w.items) (sym c.self.view_is) c.requires.written) in
    c.in_default.not-Full there.0 (c.replace.ensures.value ∙ there.1 c.index-self-slot.result)

-- the slot had the item that is returned, which was written
full : (g : _) (c : After-of g) → (get_or c.self.inside.places c.args.slot Empty ≡ Full c.in-Full.item)
    × (slice_get (written c.self.inside.places) c.args.slot ≡ Some c.in-Full.item)
full g c =
    let there = full_at c.self.inside.places c.args.slot (subst (λ w. w.taken ≤ c.args.slot) (sym c.self.view_is) c.requires.left)
    (subst (λ w. c.args.slot < length w.items) (sym c.self.view_is) c.requires.written) in
    let is : Full there.0 ≡ Full c.in-Full.item = sym (c.replace.ensures.value ∙ there.1 c.index-self-slot.result) ∙ c.in-Full.is in
    (there.1 Empty ∙ is, there.2 ∙ ap item_in is)

pub invariant_of-self : goal.invariant_of-self
invariant_of-self g c =
    let at = goal.at.invariant_of-self g c in
    IsRow-taken g.row.N c.self.inside.places c.args.slot c.in-Full.item c.of.result c.self.invariant (full g at.After-of).0

pub returns-clause-item : goal.returns-clause-item
returns-clause-item g c =
    let at = goal.at.returns-clause-item g c in
    sym (ap (λ w. slice_get w.items c.args.slot) c.self.view_is) ∙ (full g at.After-of).1

pub returns-clause-taken : goal.returns-clause-taken
returns-clause-taken g c =
    let at = goal.at.returns-clause-taken g c in
    let low = subst (λ w. w.taken ≤ c.args.slot) (sym c.self.view_is) c.requires.left in
    ap (λ items. record { items = items; taken = reach (set c.self.inside.places c.args.slot (Taken c.of.result)) })
    (written-taken c.self.inside.places c.args.slot c.in-Full.item c.of.result (full g at.After-of).0 c.of.ensures
    ∙ ap (λ w. w.items) c.self.view_is)
    ∙ ap (λ taken. record { items = c.args.self.now.items; taken = taken })
    (reach-taken c.self.inside.places c.args.slot c.of.result (omega (arith, c.requires.within, c.self.invariant.0)) low)
