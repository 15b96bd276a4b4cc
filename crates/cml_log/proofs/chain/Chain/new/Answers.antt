use Rattle.std.proofs.Common.{◌+◌, ◌++◌, ◌∷◌, [], Some, None, map, ap, ◌∙◌, arith}
use Rattle.cml_log.specs.{items_of, cell_of, unwritten}
use Rattle.cml_log.proofs.ChainLemmas.{IsChain-one, taken-one}
use Rattle.cml_log.proofs.chain.Chain.new.Goals as goal

pub invariant_of-result : goal.invariant_of-result
invariant_of-result g c =
    let begun = c.in_ok-chunks.ensures in
    let made = c.in-Ok.ensures in
    IsChain-one _ c.in-Ok.head _ _
    (made.kept ∙ ap (λ blocks. blocks ++ Some (c.in-Ok.head.at, record { row = unwritten; link = None; cursors = 0 }) ∷ []) begun.kept)
    (omega arith) (omega arith) made.number (made.counted.0 ∙ ap (λ n. n + 1) begun.counts.0) (made.counted.1 ∙ begun.counts.1)

pub returns : goal.returns
returns g c =
    let begun = c.in_ok-chunks.ensures in
    let made = c.in-Ok.ensures in
    let kept = made.kept
    ∙ ap (λ blocks. blocks ++ Some (c.in-Ok.head.at, record { row = unwritten; link = None; cursors = 0 }) ∷ []) begun.kept in
    record {
      given = made.counted.1 ∙ begun.counts.1;
      items = ap items_of kept;
      cells = (c.in-Ok.head.at, ap (map cell_of) kept);
      followed = made.counted.2 ∙ begun.counts.2;
      taken = taken-one _ c.in-Ok.head _ kept;
    }
