use Rattle.std.proofs.Common.{◌≡◌, ◌+◌, ◌++◌, ◌∷◌, [], Some, None, cond, length, ap, sym, ◌∙◌, arith}
use Rattle.std.proofs.lemmas.List.{length_push}
use Rattle.cml_grammar.specs.{is_giving, names_before, source_of}
use Rattle.cml_report.specs.{given_by}
use Rattle.cml_report.proofs.ListLemmas.{each_pushed}
use Rattle.cml_report.proofs.LineLemmas.{byte_more, then_is, step_gives, step_read, asks_for_ports}
use Rattle.cml_report.proofs.GivingLemmas.{given_at, names_more}
use Rattle.cml_report.proofs.plan.number_givings.Goals as goal

pub loop-step-preserved : goal.loop-step-preserved
loop-step-preserved c =
    let script = c.args.script.now in
    let i = c.loop-step.step-index in
    let s = c.step-item.result in
    let read = step_read script c.steps-step-items.result.now i s c.steps-step-items.ensures.lines c.steps-step-items.ensures.asked
    c.loop-step-test.true c.step-item.is in
    let line = read.0 in
    let gives : c.gives_name-gives.result ≡ is_giving (source_of s.line) = c.gives_name-gives.ensures ∙ step_gives script s read.1 in
    let given : c.then_some.result ≡ given_by script i = c.then_some.ensures ∙ then_is c.gives_name-gives.result c.loop-step.names
    ∙ ap (λ t. cond t (Some c.loop-step.names) None) gives ∙ ap (λ n. cond (is_giving (source_of s.line)) (Some n) None)
    c.loop-step.invariant.names ∙ sym (given_at script i (source_of s.line) line) in
    let pushed : c.push.new.self.items ≡ c.loop-step.givings.items ++ c.then_some.result ∷ [] = c.in_ok-push.ensures.items in
    let names = byte_more c.loop-step.names (names_before script.declarations script.steps (i + 1)) _ (1048576 + i) _
    (is_giving (source_of s.line)) (omega (arith, c.loop-step.invariant.names, names_more script i (source_of s.line) line))
    c.from-names.ensures gives c.loop-step.invariant.few in
    record {
      short = omega (arith, ap length pushed, length_push c.loop-step.givings.items c.then_some.result, c.loop-step.invariant.short);
      names = names.0;
      few = omega (arith, names.1);
      each = rw pushed (each_pushed (given_by script) c.loop-step.givings.items c.then_some.result c.loop-step.invariant.each
          (given ∙ ap (given_by script) (sym c.loop-step.invariant.short)));
    }

pub returns-clause-asks : goal.returns-clause-asks
returns-clause-asks c =
    asks_for_ports c.args.script.now c.steps-step-items.result.now c.steps-step-items.ensures.lines c.steps-step-items.ensures.asked
