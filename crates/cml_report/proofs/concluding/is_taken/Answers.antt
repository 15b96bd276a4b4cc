use Rattle.std.proofs.Common.{ap, sym, ◌∙◌, rules}
use Rattle.std.specs.Prelude.{unwrap_or}
use Rattle.cml_report.specs.{object_among}
use Rattle.cml_report.proofs.ConcludingLemmas.{named_object, taken_iff}
use Rattle.cml_report.proofs.concluding.is_taken.Goals as goal

pub returns : goal.returns
returns c =
    let script = c.args.ran.now.plan.now in
    let history = c.args.ran.now.board.now.history in
    let made = sym (ap (λ n. object_among script n c.args.at) c.entries.ensures) ∙ named_object _ c.in-Some.port c.in-Some.ensures in
    taken_iff script history c.args.ran.now.tally.now c.args.at c.in-Some.port.0 c.taken_from.result c.unwrap_or.result c.feed-feed.result _
    (search rules) (search rules) c.feed-feed.ensures (search rules) made c.taken_from.ensures
    (c.unwrap_or.ensures ∙ ap (λ o. unwrap_or o 0) c.got_count.ensures)
