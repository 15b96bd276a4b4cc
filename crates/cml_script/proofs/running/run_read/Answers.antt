use Rattle.std.proofs.Common.{List, ℕ, sym, subst}
use Rattle.cml_grammar.specs.{IsScript}
use Rattle.cml_script.proofs.RunLemmas.{read_run, untold_ends}
use Rattle.cml_script.proofs.GatesLemmas.{kept_unheld}
use Rattle.cml_script.proofs.running.run_read.Goals as goal

pub returns-in-Ok-clause-told : goal.returns-in-Ok-clause-told
returns-in-Ok-clause-told g c =
    let text = c.in_ok-text.text.items in
    let read = subst (λ (t : List ℕ). IsScript t c.in_ok-script.script) c.deref.ensures.value c.in_ok-script.ensures.script in
    let says = subst (IsScript text) (sym c.in_ok-plan-in-Ok.ensures.script) read in
    read_run c.args.form c.args.limit _ _ text c.in_ok-plan-in-Ok.plan _ _ _ c.conclude_settled.result c.in_ok-text.ensures says
    c.conclude_settled.ensures.stop c.conclude_settled.ensures.text

pub returns-in-Ok-clause-untold : goal.returns-in-Ok-clause-untold
returns-in-Ok-clause-untold g c =
    let text = c.in_ok-text.text.items in
    let read = subst (λ (t : List ℕ). IsScript t c.in_ok-script.script) c.deref.ensures.value c.in_ok-script.ensures.script in
    let says = subst (IsScript text) (sym c.in_ok-plan-in-Ok.ensures.script) read in
    untold_ends c.in_ok-plan-in-Ok.plan c.args.limit c.board.result.now c.in-Ok.left.tally c.in-Ok.left.stop
    _ _ text c.conclude_settled.result
    c.in_ok-text.ensures says c.conclude_settled.ensures.untold

pub returns-in-Ok-clause-open : goal.returns-in-Ok-clause-open
returns-in-Ok-clause-open g c =
    kept_unheld _ c.in-Ok.left.stop c.conclude_settled.result c.in-Ok.ensures.open c.conclude_settled.ensures.stop
