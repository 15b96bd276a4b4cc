use Rattle.std.proofs.Common.{rules, sym, ◌∙◌, arith}
use Rattle.std.proofs.lemmas.Iterator.{YieldsList-from_slice}
use Rattle.std.proofs.lemmas.Iterator.Search.{all_from_yields_List}
use borrow.Author.Tests.{tests}
use Rattle.cml_grammar.specs.{is_name_byte}
use Rattle.cml_grammar.proofs.NameLemmas.{is_name_rest}
use Rattle.cml_grammar.proofs.names.is_name.Goals as goal

pub returns : goal.returns
returns c =
    let rest = c.in-Some.rest.now in
    all_from_yields_List is_name_byte _ _ _ c.all.ensures.ran (YieldsList-from_slice rest cc) (λ x b q k. search (rules, tests))
    ∙ sym (is_name_rest c.args.word.now c.in-Some.first.now rest (sym c.as_bytes.ensures.value ∙ c.in-Some.ensures.cases.0)
    (sym c.is_letter.ensures ∙ c.if-not-is_letter.false) (omega arith) (sym c.is_reserved.ensures ∙ c.if-is_reserved.false))
