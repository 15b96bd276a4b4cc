use Rattle.std.proofs.Common.{ℕ, List, [], ◌∷◌, ◌++◌, Bor, sym, ap, ◌∙◌}
use Rattle.std.specs.Option.{option_map}
use Rattle.cml_grammar.specs.{Step, step}
use Rattle.cml_grammar.proofs.ReadingLemmas.{kept_suits}
use Rattle.cml_grammar.proofs.ClosingLemmas.{asked_closes, giving_closes, asked_scopes}
use Rattle.cml_grammar.proofs.reading.Reading.step.Goals as goal

pub action_by-requires : goal.action_by-requires
action_by-requires c =
    kept_suits c.args.self.now _ _ c.args.line (step c.args.seat c.args.verb _) c.self.view_is c.self.invariant.names
    (record { fits = c.requires.fits; is = c.requires.form })

pub returns-in-None-clause-scope : goal.returns-in-None-clause-scope
returns-in-None-clause-scope c =
    let i = c.self.inside in
    let s : Step = record { line = c.args.line; seat = c.args.seat; action = c.in_ok-action.action } in
    asked_scopes i.kept.version c.args.self.now i.kept.names i.kept.declarations.items i.kept.lanes.items i.kept.capacities.entries
    i.kept.steps.items _ i.threads s c.args.verb _ c.self.view_is c.self.invariant
    (record { fits = c.requires.fits; is = c.requires.form }) c.in_ok-action.ensures.action c.in_ok-action.ensures.uses
    c.in_ok-push-in-None.ensures.items

pub invariant_of-self-in-None : goal.invariant_of-self-in-None
invariant_of-self-in-None c =
    let i = c.self.inside in
    let s : Step = record { line = c.args.line; seat = c.args.seat; action = c.in_ok-action.action } in
    asked_closes i.kept.version c.args.self.now i.kept.names i.kept.declarations.items i.kept.lanes.items i.kept.capacities.entries
    i.kept.steps.items _ i.threads s c.args.verb _ c.self.view_is c.self.invariant
    (record { fits = c.requires.fits; is = c.requires.form }) c.in_ok-action.ensures.action c.in_ok-action.ensures.uses
    c.in_ok-push-in-None.ensures.items
    (sym c.name_given.ensures ∙ ap (option_map (λ (w : Bor (List ℕ)). w.now)) c.in-None.is)

pub returns-in-Some-clause-scope : goal.returns-in-Some-clause-scope
returns-in-Some-clause-scope c =
    let i = c.self.inside in
    let s : Step = record { line = c.args.line; seat = c.args.seat; action = c.in_ok-action.action } in
    asked_scopes i.kept.version c.args.self.now i.kept.names i.kept.declarations.items i.kept.lanes.items i.kept.capacities.entries
    i.kept.steps.items _ i.threads s c.args.verb _ c.self.view_is c.self.invariant
    (record { fits = c.requires.fits; is = c.requires.form }) c.in_ok-action.ensures.action c.in_ok-action.ensures.uses
    (c.push_reserved.ensures.items ∙ ap (λ (xs : List Step). xs ++ s ∷ []) c.reserve.ensures.items)

pub invariant_of-self-in-Some : goal.invariant_of-self-in-Some
invariant_of-self-in-Some c =
    let i = c.self.inside in
    let s : Step = record { line = c.args.line; seat = c.args.seat; action = c.in_ok-action.action } in
    giving_closes i.kept.version c.args.self.now i.kept.names i.kept.declarations.items i.kept.lanes.items i.kept.capacities.entries
    i.kept.steps.items _ i.threads s c.args.verb _ c.self.view_is c.self.invariant
    (record { fits = c.requires.fits; is = c.requires.form }) c.in_ok-action.ensures.action c.in_ok-action.ensures.uses
    (c.push_reserved.ensures.items ∙ ap (λ (xs : List Step). xs ++ s ∷ []) c.reserve.ensures.items)
    c.in-Some.name.now (sym c.name_given.ensures ∙ ap (option_map (λ (w : Bor (List ℕ)). w.now)) c.in-Some.is) _ c.in_ok-name-in-Some.name
    c.in_ok-name-in-Some.ensures.ok c.in_ok-insert-in-Some.ensures.entries
