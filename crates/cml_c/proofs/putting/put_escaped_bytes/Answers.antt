use Rattle.std.proofs.Common.{ℕ, List, [], take, ap, sym, subst, ◌∙◌, arith}
use Rattle.std.specs.List.{flat_map}
use Rattle.std.proofs.lemmas.List.{flat_map_more, take_more}
use Rattle.std.proofs.lemmas.List.Folds.{length-flat_map-take}
use Rattle.cml_journal.specs.{byte_text}
use Rattle.cml_c.specs.{Puts}
use Rattle.cml_c.proofs.PuttingLemmas.{puts_both}
use Rattle.cml_c.proofs.putting.put_escaped_bytes.Goals as goal

pub put_escaped-end-requires : goal.put_escaped-end-requires
put_escaped-end-requires c =
    omega (
      arith,
      length-flat_map-take byte_text c.args.bytes.now c.loop-byte.byte-index 0 c.loop-byte-test.true,
      c.loop-byte.invariant.long,
      c.requires,
      c.loop-byte.auto.buffer,
    )

pub loop-byte-preserved : goal.loop-byte-preserved
loop-byte-preserved c =
    subst (λ (t : List ℕ). Puts t c.args.at c.args.buffer.now c.put_escaped-end.new.buffer c.put_escaped-end.result)
    (flat_map_more byte_text [] (take c.loop-byte.byte-index c.args.bytes.now) _
    ∙ ap (flat_map byte_text) (sym (take_more c.args.bytes.now c.loop-byte.byte-index 0 c.loop-byte-test.true)))
    (puts_both c.loop-byte.invariant c.put_escaped-end.ensures)
