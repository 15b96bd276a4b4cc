use Rattle.std.proofs.Common.{rules, sym, ◌∙◌, arith, length}
use Rattle.std.proofs.lemmas.Bool.{eqb-false}
use Rattle.std.proofs.lemmas.Iterator.{YieldsList-from_slice}
use Rattle.std.proofs.lemmas.Iterator.Search.{all_from_yields_List}
use borrow.Author.Tests.{tests}
use Rattle.cml_calls.specs.{is_text_byte}
use Rattle.cml_calls.proofs.TextLemmas.{text_by_bytes}
use Rattle.cml_calls.proofs.text.is_text.Goals as goal

pub returns : goal.returns
returns c =
    let bytes = c.args.bytes.now in
    all_from_yields_List is_text_byte _ _ _ c.all.ensures.ran (YieldsList-from_slice bytes cc) (λ x b q k. search (rules, tests))
    ∙ sym (text_by_bytes bytes (omega (arith, eqb-false (length bytes) 0 (sym c.is_empty.ensures ∙ c.if-is_empty.false))) (omega arith))
