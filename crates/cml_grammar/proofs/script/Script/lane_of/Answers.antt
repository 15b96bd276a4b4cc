use Rattle.std.proofs.Common.{sym, ap, ◌∙◌, subst, Option, ℕ}
use Rattle.std.specs.Map.{lookup}
use Rattle.std.specs.Option.{IfSome}
use Rattle.cml_grammar.specs.{Ends, are_same, Lines, names_of, capacity_of, IsCapacity}
use Rattle.cml_grammar.proofs.GrowingLemmas.{capacity_kept}
use Rattle.cml_grammar.proofs.RingLemmas.{kept_fits}
use Rattle.cml_grammar.proofs.script.Script.lane_of.Goals as goal

pub returns-clause-capacity : goal.returns-clause-capacity
returns-clause-capacity c =
    let ends : Ends = (c.args.seat, c.args.target) in
    c.copied.ensures
    ∙ c.get.ensures.value
    ∙ ap (lookup (are_same ends)) c.self.invariant.capacities_are
    ∙ capacity_kept _ _ ends c.self.invariant.lanes
    ∙ ap (λ (s : Lines). capacity_of (names_of s) s.lanes ends) c.self.view_is

pub returns-clause-fits : goal.returns-clause-fits
returns-clause-fits c =
    let ends : Ends = (c.args.seat, c.args.target) in
    subst (λ (o : Option ℕ). IfSome o IsCapacity)
    (sym (c.copied.ensures ∙ c.get.ensures.value ∙ ap (lookup (are_same ends)) c.self.invariant.capacities_are))
    (kept_fits _ _ ends c.self.invariant.lanes)
