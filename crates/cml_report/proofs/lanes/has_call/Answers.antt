use Rattle.std.proofs.Common.{◌≡◌, ◌<◌, Some, length, get_or, sym, ap, ◌∙◌, arith}
use Rattle.std.specs.Option.{option_and_then}
use Rattle.std.specs.Prelude.{slice_get}
use Rattle.std.proofs.lemmas.List.{length-map}
use Rattle.std.proofs.lemmas.Option.{same_Some, slice_get-get_or}
use Rattle.cml_grammar.specs.{Step, names_of, source_of, ReadsStep}
use Rattle.cml_report.specs.{call_on, call_to}
use Rattle.cml_report.proofs.ListLemmas.{mapped_at}
use Rattle.cml_report.proofs.LineLemmas.{all_at}
use Rattle.cml_report.proofs.MovedLemmas.{call_is}
use Rattle.cml_report.proofs.lanes.has_call.Goals as goal

pub returns : goal.returns
returns c =
    let script = c.args.plan.now in
    let at = c.args.at in
    let i = c.args.i in
    let steps = rw c.script.ensures at c.steps.ensures in
    let items = c.steps.result.now in
    let within : i < length items = omega (arith, c.requires.i, ap length steps.lines, length-map items (λ (x : Step). source_of x.line)) in
    let step = get_or items i c.index-steps-i.result in
    let here : slice_get items i ≡ Some step = slice_get-get_or items i c.index-steps-i.result within in
    let line = mapped_at _ items script.steps i step steps.lines here in
    let reads = all_at (ReadsStep (names_of script)) items i step steps.asked here in
    let calls : option_and_then (call_to script at) (slice_get script.steps i) ≡ Some (call_on step.action c.number.result) =
    ap (option_and_then (call_to script at)) line ∙ call_is script 0 at step reads
    ∙ ap (λ n. Some (call_on step.action (record { 0 = n }))) (sym c.number.ensures) in
    (λ yes. calls ∙ ap Some (c.is_call_on.ensures.0 yes), λ has. c.is_call_on.ensures.1 (same_Some _ _ (sym calls ∙ has)))
