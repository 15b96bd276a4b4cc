use Rattle.std.proofs.Common.{◌≡◌, drop, ap, ◌∙◌}
use Rattle.std.proofs.lemmas.List.{take_rest}
use Rattle.std.proofs.lemmas.Result.{IfOk-weaker}
use Rattle.cml_journal.specs.{Summed, and_bytes, sum_by, sum_of}
use Rattle.cml_journal.proofs.SumsLemmas.{whole_sum}
use Rattle.cml_journal.proofs.sealed.sum_from.Goals as goal

pub returns : goal.returns
returns c =
    let rest = drop c.args.start c.args.bytes.now in
    IfOk-weaker c.sum.result (λ sum. sum ≡ sum_by c.add.new.self) (λ sum. sum ≡ sum_of rest)
    (λ sum is. is ∙ ap sum_by (c.add.ensures ∙ ap (and_bytes c.new-summing.result) (take_rest c.args.bytes.now c.args.start)
    ∙ ap (λ (s : Summed). and_bytes s rest) c.new-summing.ensures) ∙ whole_sum rest)
    c.sum.ensures
