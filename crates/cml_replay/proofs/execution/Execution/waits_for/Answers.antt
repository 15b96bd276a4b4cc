use Rattle.std.proofs.Common.{ℕ, ◌≡◌, Some, None, ◌∙◌, sym, ap, subst}
use Rattle.std.specs.Option.{option_map}
use Rattle.cml_calls.specs.{Kind}
use Rattle.cml_board.specs.{kind_of, Fits, answer}
use Rattle.cml_grammar.specs.{names_of}
use Rattle.cml_report.specs.{call_on, object_of, IsObjectAt}
use Rattle.cml_replay.specs.{Executed}
use Rattle.cml_report.proofs.FitLemmas.{fits_use}
use Rattle.cml_replay.proofs.execution.Execution.waits_for.Goals as goal

pub returns : goal.returns
returns c =
    let names = names_of c.args.self.now.script in
    let at = object_of c.args.self.now.script c.args.self.now.history in
    let action = c.args.action.now in
    let asked = call_on action c.bound_object-object.result in
    let kinds = subst (λ n. (k : Kind) → IsObjectAt names n k → kind_of c.args.self.now.history c.bound_object-object.result.0 ≡ Some k)
    c.used_by.ensures c.bound_object-object.ensures.kind in
    let fits : Fits c.args.self.now.history asked =
    fits_use names action c.args.self.now.history c.bound_object-object.result c.requires.uses kinds in
    let calls = ap (λ n. option_map (λ (o : ℕ). call_on action (record { 0 = o })) (at n)) (sym c.used_by.ensures)
    ∙ ap (option_map (λ (o : ℕ). call_on action (record { 0 = o }))) c.bound_object-object.ensures.object in (
      asked,
      calls,
      fits,
      (
        λ yes. subst (λ (p : Executed). answer p.history asked ≡ None) c.self.view_is (c.would_wait.ensures.0 yes).1,
        λ none. c.would_wait.ensures.1 (
          subst (λ (p : Executed). Fits p.history asked) (sym c.self.view_is) fits,
          subst (λ (p : Executed). answer p.history asked ≡ None) (sym c.self.view_is) none,
        ),
      ),
    )
