use Rattle.std.proofs.Common.{◌≡◌, ◌+◌, suc, min, ap, ◌∙◌, arith}
use Rattle.cml_compact.specs.{settled}
use Rattle.cml_compact.specs.Stages.{weights}
use Rattle.cml_compact.proofs.measuring.compact_length.Goals as goal

pub loop-name-preserved : goal.loop-name-preserved
loop-name-preserved g c =
    let facts = settled c.args.board.now.history in
    let name = c.loop-name.name in
    let next : suc name ≡ name + 1 = omega arith in
    let more : c.saturating_add-entries.result ≡ min (weights facts (suc name)) 18446744073709551615 =
    omega (arith, c.loop-name.invariant, c.calls_of-calls.ensures, c.saturating_add.ensures, c.saturating_add-entries.ensures) in
    more ∙ ap (λ n. min (weights facts n) 18446744073709551615) next
