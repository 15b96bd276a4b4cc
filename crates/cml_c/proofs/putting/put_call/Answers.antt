use Rattle.std.proofs.Common.{ℕ, List, Option, ap, subst, ◌∙◌}
use Rattle.std.specs.Fmt.{decimal}
use Rattle.cml_board.specs.{Name}
use Rattle.cml_journal.specs.{field}
use Rattle.cml_c.specs.{Puts}
use Rattle.cml_c.proofs.PuttingLemmas.{puts_both}
use Rattle.cml_c.proofs.putting.put_call.Goals as goal

pub returns : goal.returns
returns g c =
    let word = subst (λ (t : List ℕ). Puts t c.args.at c.args.buffer.now c.put_text-at.new.buffer c.put_text-at.result)
    (c.as_bytes.ensures.value ∙ ap (λ shape. shape.word) c.shape.ensures) c.put_text-at.ensures in
    let object = subst (λ (o : Option Name). Puts (field (λ (name : Name). decimal name.0) o) c.put_text-at.result c.put_text-at.new.buffer
    c.put_object-at.new.buffer c.put_object-at.result) c.object.ensures c.put_object-at.ensures in
    let sent = subst (λ (o : Option g.row.M.Denot). Puts (field g.M.Written.text o) c.put_object-at.result c.put_object-at.new.buffer
    c.put_sent.new.buffer c.put_sent.result) c.message.ensures c.put_sent.ensures in
    puts_both (puts_both word object) sent
