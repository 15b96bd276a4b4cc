use Rattle.std.proofs.Common.{rules, ◌∙◌}
use Rattle.std.specs.List.{list_any}
use Rattle.std.proofs.lemmas.Iterator.{YieldsList-from_slice}
use Rattle.std.proofs.lemmas.Iterator.Search.{any_from_yields_List}
use borrow.Author.Tests.{tests}
use Rattle.cml_calls.specs.{ReplyKind}
use Rattle.cml_chart.specs.{says}
use Rattle.cml_chart.proofs.report.lines.may_answer.Goals as goal

pub returns : goal.returns
returns c =
    let test = λ (kind : ReplyKind). says kind c.args.reply.now in
    any_from_yields_List test c.any.new.self _ c.any.result c.any.ensures.ran (YieldsList-from_slice c.replies_to.result.now cc)
    (λ x b q k. search (rules, tests))
    ∙ (λ j. list_any test (c.replies_to.ensures j))
