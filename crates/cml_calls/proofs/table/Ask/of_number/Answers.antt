use Rattle.std.proofs.Common.{rules, ◌∙◌, ◌==◌}
use Rattle.std.proofs.lemmas.Iterator.{YieldsList-from_slice}
use Rattle.std.proofs.lemmas.Iterator.Search.{find_from_yields_List}
use borrow.Author.Tests.{tests}
use Rattle.cml_calls.specs.{Ask, asked, asks}
use Rattle.cml_calls.proofs.table.Ask.of_number.Goals as goal

pub returns : goal.returns
returns c =
    c.copied.ensures
    ∙ find_from_yields_List (λ (call : Ask). (asked call).number == c.args.number) c.find.new.self _ c.find.result c.find.ensures.ran
    (YieldsList-from_slice asks cc) (λ x b q k. search (rules, tests))
