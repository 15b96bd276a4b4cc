use Rattle.std.proofs.Common.{All, sym, subst}
use Rattle.cml_grammar.specs.{Lines, names_of, ReadsStep}
use Rattle.cml_grammar.proofs.script.Script.steps.Goals as goal

pub returns-clause-asked : goal.returns-clause-asked
returns-clause-asked c =
    subst (λ (s : Lines). All (ReadsStep (names_of s)) c.deref.result.now) c.self.view_is
    (subst (All (ReadsStep _)) (sym c.deref.ensures.value) c.self.invariant.steps)
