use Rattle.std.proofs.Common.{◌∙◌, sym, ap}
use Rattle.std.proofs.lemmas.Option.{same_Some}
use Rattle.cml_board.specs.{Name, kind_of}
use Rattle.cml_replay.proofs.BoundLemmas.{bound_is}
use Rattle.cml_replay.proofs.execution.Execution.bound_object.Goals as goal

pub returns-clause-kind : goal.returns-clause-kind
returns-clause-kind c = λ k named.
    let long = sym c.entries-made.ensures in
    let is = bound_is _ c.args.self.now _ _ c.deref.result.now c.args.at c.entries-made.result c.object.result c.self.view_is
    c.self.invariant.0 c.requires long c.deref.ensures.value c.object.ensures in
    ap (λ (n : Name). kind_of c.args.self.now.history n.0) (sym (same_Some _ _ (sym is ∙ c.unwrap.ensures))) ∙ c.requires.kind k named
