use Rattle.std.proofs.Common.{rules, sym, ◌∙◌}
use Rattle.std.specs.List.{list_any, zip}
use Rattle.std.proofs.lemmas.Iterator.{YieldsList-from_slice, YieldsList-from_zip}
use Rattle.std.proofs.lemmas.Iterator.Search.{any_from_yields_List}
use borrow.Author.Tests.{tests}
use Rattle.cml_grammar.specs.{texts_of, has_flaw}
use Rattle.cml_grammar.proofs.ListLemmas.{list_any-zip-map}
use Rattle.cml_grammar.proofs.checks.any_word.Goals as goal

pub returns : goal.returns
returns c =
    let test = has_flaw (texts_of c.args.names.now.entries) c.args.flaw in
    any_from_yields_List (λ p. test p.0 p.1.now) c.any.new.self _ c.any.result c.any.ensures.ran
    (YieldsList-from_zip (YieldsList-from_slice c.places-places.result.now cc) (YieldsList-from_slice c.rest.result.now cc))
    (λ x b q k. search (rules, tests))
    ∙ sym (list_any-zip-map (λ w. w.now) test c.places-places.result.now c.rest.result.now)
    ∙ (λ j. list_any (λ p. test p.0 p.1) (zip (c.places-places.ensures j) (c.rest.ensures j)))
