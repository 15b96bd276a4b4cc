use Rattle.std.proofs.Common.{ℕ, List, [], ◌∷◌, ◌++◌, map, Bor, string_bytes, sym, ap, ◌∙◌, subst}
use Rattle.cml_grammar.specs.{Line, Lane, words_of, lane, after_words, scope_of}
use Rattle.cml_grammar.proofs.ReadingLemmas.{ReadFrom, kept_suits}
use Rattle.cml_grammar.proofs.DeclaredLaneLemmas.{laid_closes, laid_scopes}
use Rattle.cml_grammar.proofs.reading.Reading.lay.Goals.{After-lane_by-lane}
use Rattle.cml_grammar.proofs.reading.Reading.lay.Goals as goal

pub lane_by-lane-requires : goal.lane_by-lane-requires
lane_by-lane-requires c =
    kept_suits c.args.self.now _ _ c.args.line (lane _) c.self.view_is c.self.invariant.names
    (record { fits = c.requires.fits; is = c.requires.form })

-- what the lane was read from
read : (c : After-lane_by-lane)
    → ReadFrom c.args.self.now c.lane_by-lane.result.line (lane (map (λ (w : Bor (List ℕ)). w.now) c.args.rest.now))
read c = subst (λ (line : Line). ReadFrom c.args.self.now line (lane (map (λ (w : Bor (List ℕ)). w.now) c.args.rest.now)))
    (sym c.lane_by-lane.ensures.line) (record { fits = c.requires.fits; is = c.requires.form })

pub returns-clause-scope : goal.returns-clause-scope
returns-clause-scope c =
    let i = c.self.inside in
    let l : Lane = c.lane_by-lane.result in
    laid_scopes i.kept.version c.args.self.now i.kept.names i.kept.capacities i.kept.declarations.items i.kept.lanes.items _
    i.kept.steps.items i.threads l _ c.self.view_is c.self.invariant
    (read (goal.at.returns-clause-scope c).After-lane_by-lane) c.lane_by-lane.ensures.says
    (c.push_reserved.ensures.items ∙ ap (λ (xs : List Lane). xs ++ l ∷ []) c.reserve.ensures.items)
    ∙ ap (λ (line : Line). after_words (scope_of c.args.self.now) (words_of (string_bytes line.text))) c.lane_by-lane.ensures.line

pub invariant_of-self-2 : goal.invariant_of-self-2
invariant_of-self-2 c =
    let i = c.self.inside in
    let l : Lane = c.lane_by-lane.result in
    laid_closes i.kept.version c.args.self.now i.kept.names i.kept.capacities i.kept.declarations.items i.kept.lanes.items _
    i.kept.steps.items i.threads l _ c.self.view_is c.self.invariant
    (read (goal.at.invariant_of-self-2 c).After-lane_by-lane) c.lane_by-lane.ensures.says
    (c.push_reserved.ensures.items ∙ ap (λ (xs : List Lane). xs ++ l ∷ []) c.reserve.ensures.items)
    _ c.in_ok-insert.ensures.entries
