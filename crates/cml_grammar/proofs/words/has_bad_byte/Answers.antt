use Rattle.std.proofs.Common.{rules}
use Rattle.std.proofs.lemmas.Iterator.{YieldsList-from_slice}
use Rattle.std.proofs.lemmas.Iterator.Search.{any_from_yields_List}
use borrow.Author.Tests.{tests}
use Rattle.cml_grammar.specs.{is_bad_byte}
use Rattle.cml_grammar.proofs.words.has_bad_byte.Goals as goal

pub returns : goal.returns
returns c =
    any_from_yields_List is_bad_byte _ _ _ c.any.ensures.ran (YieldsList-from_slice c.args.line.now cc) (λ x b q k. search (rules, tests))
