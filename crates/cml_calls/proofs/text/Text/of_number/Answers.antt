use Rattle.std.proofs.Common.{◌≡◌, ◌∙◌, ap, subst, IfOk}
use Rattle.cml_calls.specs.{is_text}
use Rattle.cml_calls.proofs.TextLemmas.{number_is_text}
use Rattle.cml_calls.proofs.text.Text.of_number.Goals as goal

pub invariant_of-result : goal.invariant_of-result
invariant_of-result c =
    let copied = subst (λ tested. IfOk tested (λ bytes. bytes ≡ c.as_bytes.result.now)) c.in-Ok.is c.in_ok-bytes.ensures.bytes in
    ap is_text (copied ∙ c.as_bytes.ensures.value ∙ c.format.ensures.text) ∙ number_is_text _ c.ranges.number.fits
