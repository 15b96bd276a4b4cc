use Rattle.std.proofs.Common.{rules, ◌∙◌, ◌==◌}
use Rattle.std.proofs.lemmas.Iterator.{YieldsList-from_slice}
use Rattle.std.proofs.lemmas.Iterator.Search.{find_from_yields_List}
use borrow.Author.Tests.{tests}
use Rattle.cml_calls.specs.{Give, given, gives}
use Rattle.cml_calls.proofs.table.Give.of_number.Goals as goal

pub returns : goal.returns
returns c =
    c.copied.ensures
    ∙ find_from_yields_List (λ (call : Give). (given call).number == c.args.number) c.find.new.self _ c.find.result c.find.ensures.ran
    (YieldsList-from_slice gives cc) (λ x b q k. search (rules, tests))
