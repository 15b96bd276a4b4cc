use Rattle.std.proofs.Common.{rules, ℕ, List, Some, None, Bor, sym, ap, ◌∙◌}
use Rattle.std.specs.Option.{option_map}
use Rattle.std.proofs.lemmas.Iterator.{YieldsList-from_slice, YieldsList-from_zip}
use Rattle.std.proofs.lemmas.Iterator.Search.{find_from_yields_List}
use borrow.Author.Tests.{tests}
use Rattle.cml_grammar.specs.{Place, is_fresh}
use Rattle.cml_grammar.proofs.MeaningLemmas.{fresh_found}
use Rattle.cml_grammar.proofs.forms.fresh_word.Goals as goal

pub returns-in_err-word : goal.returns-in_err-word
returns-in_err-word c =
    ap (option_map (λ (w : Bor (List ℕ)). w.now)) c.from_residual.ensures
    ∙ fresh_found c.args.places.now c.args.words.now None (
    ap (option_map (λ (p : Bor Place × Bor (Bor (List ℕ))). (p.0.now, p.1.now))) (sym c.in_err-word.was)
    ∙ find_from_yields_List (λ p. is_fresh p.0) c.find.new.self _ c.find.result c.find.ensures.ran
    (YieldsList-from_zip (YieldsList-from_slice c.args.places.now cc) (YieldsList-from_slice c.args.words.now cc))
    (λ x b q k. search (rules, tests)))

pub returns : goal.returns
returns c =
    fresh_found c.args.places.now c.args.words.now (Some (c.in_ok-word.field-0-0.now, c.in_ok-word.word.now)) (
    ap (option_map (λ (p : Bor Place × Bor (Bor (List ℕ))). (p.0.now, p.1.now))) (sym c.in_ok-word.was)
    ∙ find_from_yields_List (λ p. is_fresh p.0) c.find.new.self _ c.find.result c.find.ensures.ran
    (YieldsList-from_zip (YieldsList-from_slice c.args.places.now cc) (YieldsList-from_slice c.args.words.now cc))
    (λ x b q k. search (rules, tests)))
