use Rattle.std.proofs.Common.{◌∙◌, [], refl, sym, subst, ap, length}
use Rattle.std.specs.Global.{Global}
use Rattle.std.specs.Prelude.{Vec}
use Rattle.std.proofs.lemmas.Result.{IfOk-weaker}
use Rattle.cml_grammar.specs.{Lines, names_of}
use Rattle.cml_report.specs.{Binding, AreBindings}
use Rattle.cml_report.proofs.KeptLemmas.{unbound}
use Rattle.cml_report.proofs.plan.Plan.unbound.Goals as goal

pub returns : goal.returns
returns c =
    let total = ap (λ (script : Lines). length (names_of script)) c.self.view_is in
    let none = unbound c.args.self.now _ [] refl (c.self.invariant.total ∙ total) in
    IfOk-weaker c.vec.result _ _ (λ (b : Vec Binding Global) items. subst (AreBindings c.args.self.now []) (sym (items (λ y is. is))) none)
    c.vec.ensures.items_if_clones_equal
