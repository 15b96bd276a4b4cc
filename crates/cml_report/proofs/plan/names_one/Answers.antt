use Rattle.std.proofs.Common.{rules}
use Rattle.std.proofs.lemmas.Iterator.{YieldsList-from_slice}
use Rattle.std.proofs.lemmas.Iterator.Search.{any_from_yields_List}
use borrow.Author.Tests.{tests}
use Rattle.cml_calls.specs.{is_name}
use Rattle.cml_report.proofs.plan.names_one.Goals as goal

pub returns : goal.returns
returns c = any_from_yields_List is_name c.any.new.self _ c.any.result c.any.ensures.ran (YieldsList-from_slice c.args.shape.replies.now cc)
    (λ x b q k. search (rules, tests))
