use Rattle.std.proofs.Common.{All, sym, subst}
use Rattle.cml_grammar.specs.{Lines, names_of, ReadsLane}
use Rattle.cml_grammar.proofs.script.Script.lanes.Goals as goal

pub returns-clause-said : goal.returns-clause-said
returns-clause-said c =
    subst (λ (s : Lines). All (ReadsLane (names_of s)) c.deref.result.now) c.self.view_is
    (subst (All (ReadsLane _)) (sym c.deref.ensures.value) c.self.invariant.lanes)
