use Rattle.std.proofs.Common.{List, [], ◌∷◌, ◌++◌, ap, ◌∙◌}
use Rattle.cml_grammar.specs.{Declaration, declaration, named_by}
use Rattle.cml_grammar.proofs.ReadingLemmas.{kept_suits}
use Rattle.cml_grammar.proofs.ClosingLemmas.{declared_closes, declared_scopes}
use Rattle.cml_grammar.proofs.reading.Reading.declare.Goals as goal

pub makes_by-requires-clause-suits : goal.makes_by-requires-clause-suits
makes_by-requires-clause-suits c =
    kept_suits c.args.self.now _ _ c.args.line (declaration c.args.declares _) c.self.view_is c.self.invariant.names
    (record { fits = c.requires.fits; is = c.requires.form })

pub name_by-requires : goal.name_by-requires
name_by-requires c =
    kept_suits c.args.self.now _ _ c.args.line (declaration c.args.declares _) c.self.view_is c.self.invariant.names
    (record { fits = c.requires.fits; is = c.requires.form })

pub returns-clause-scope : goal.returns-clause-scope
returns-clause-scope c =
    let i = c.self.inside in
    let d : Declaration = record { line = c.args.line; makes = c.in_ok-makes.makes } in
    declared_scopes i.kept.version c.args.self.now i.kept.names i.kept.declarations.items _ i.kept.lanes.items i.kept.capacities.entries
    i.kept.steps.items i.threads d c.args.declares _ c.name_by.result.now c.self.view_is c.self.invariant
    (record { fits = c.requires.fits; is = c.requires.form }) c.name_by.ensures c.in_ok-makes.ensures.makes c.in_ok-makes.ensures.uses
    (c.push_reserved.ensures.items ∙ ap (λ (xs : List Declaration). xs ++ d ∷ []) c.reserve.ensures.items)

pub invariant_of-self-2 : goal.invariant_of-self-2
invariant_of-self-2 c =
    let i = c.self.inside in
    let d : Declaration = record { line = c.args.line; makes = c.in_ok-makes.makes } in
    declared_closes i.kept.version c.args.self.now i.kept.names i.kept.declarations.items _ i.kept.lanes.items i.kept.capacities.entries
    i.kept.steps.items i.threads d c.args.declares _ c.name_by.result.now c.self.view_is c.self.invariant
    (record { fits = c.requires.fits; is = c.requires.form }) c.name_by.ensures c.in_ok-makes.ensures.makes c.in_ok-makes.ensures.uses
    (c.push_reserved.ensures.items ∙ ap (λ (xs : List Declaration). xs ++ d ∷ []) c.reserve.ensures.items)
    _ _ c.in_ok-name.name c.named_by-named.result c.in_ok-name.ensures.ok (c.named_by-named.ensures
    ∙ ap (named_by c.args.declares i.threads) c.owner_of-owner.ensures) c.in_ok-insert.ensures.entries c.threads_with-threads.ensures
