use Rattle.std.proofs.Common.{refl}
use Rattle.cml_script.proofs.RunLemmas.{text_under, refused_untold}
use Rattle.cml_script.proofs.running.conclude_settled.Goals as goal

pub returns-clause-text : goal.returns-clause-text
returns-clause-text c =
    let ran = c.args.ran.now in
    let own = c.if-not-is_of_run.ensures.0 refl in
    text_under c.args.form c.args.limit _ ran.plan.now ran.board.now.history ran.tally.now ran.stop
    c.conclude_as.result own.under c.conclude_as.ensures.text

pub returns-clause-untold : goal.returns-clause-untold
returns-clause-untold c =
    let ran = c.args.ran.now in
    let own = c.if-not-is_of_run.ensures.0 refl in
    refused_untold ran.plan.now c.args.limit ran.board.now ran.tally.now ran.stop
    c.conclude_as.result own.under c.conclude_as.ensures.refused
