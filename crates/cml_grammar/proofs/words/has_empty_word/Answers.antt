use Rattle.std.proofs.Common.{◌==◌, length, rules, sym, ◌∙◌}
use Rattle.std.proofs.lemmas.Iterator.{YieldsList-from_slice}
use Rattle.std.proofs.lemmas.Iterator.Search.{any_from_yields_List}
use borrow.Author.Tests.{tests}
use Rattle.cml_grammar.proofs.ListLemmas.{list_any-map}
use Rattle.cml_grammar.proofs.words.has_empty_word.Goals as goal

pub returns : goal.returns
returns c =
    any_from_yields_List (λ w. length w.now == 0) _ _ _ c.any.ensures.ran (YieldsList-from_slice c.args.words.now cc)
    (λ x b q k. search (rules, tests))
    ∙ sym (list_any-map (λ w. w.now) (λ word. length word == 0) c.args.words.now)
