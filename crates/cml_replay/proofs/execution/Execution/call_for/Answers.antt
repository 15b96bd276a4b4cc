use Rattle.std.proofs.Common.{ℕ, ◌≡◌, Some, ◌∙◌, sym, ap, subst}
use Rattle.std.specs.Option.{option_map}
use Rattle.cml_board.specs.{kind_of, Fits}
use Rattle.cml_calls.specs.{Kind}
use Rattle.cml_grammar.specs.{names_of}
use Rattle.cml_report.specs.{call_on, object_of, IsObjectAt}
use Rattle.cml_report.proofs.FitLemmas.{fits_use}
use Rattle.cml_replay.proofs.execution.Execution.call_for.Goals as goal

pub returns-clause-call : goal.returns-clause-call
returns-clause-call c =
    let at = object_of c.args.self.now.script c.args.self.now.history in
    ap (λ n. option_map (λ (o : ℕ). call_on c.args.action.now (record { 0 = o })) (at n)) (sym c.used_by.ensures)
    ∙ ap (option_map (λ (o : ℕ). call_on c.args.action.now (record { 0 = o }))) c.bound_object-object.ensures.object
    ∙ ap Some (sym c.in_ok-call.ensures)

pub returns-clause-fits : goal.returns-clause-fits
returns-clause-fits c =
    let names = names_of c.args.self.now.script in
    let kinds = subst (λ n. (k : Kind) → IsObjectAt names n k → kind_of c.args.self.now.history c.bound_object-object.result.0 ≡ Some k)
    c.used_by.ensures c.bound_object-object.ensures.kind in
    subst (Fits c.args.self.now.history) (sym c.in_ok-call.ensures)
    (fits_use names c.args.action.now c.args.self.now.history c.bound_object-object.result c.requires.uses kinds)
