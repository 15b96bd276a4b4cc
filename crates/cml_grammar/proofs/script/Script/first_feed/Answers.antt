use Rattle.std.proofs.Common.{◌≡◌, rules, Bor, sym, ap, ◌∙◌}
use Rattle.std.specs.Option.{option_map}
use Rattle.std.proofs.lemmas.Iterator.{YieldsList-from_slice}
use Rattle.std.proofs.lemmas.Iterator.Search.{find_from_yields_List}
use borrow.Author.Tests.{tests}
use Rattle.cml_grammar.specs.{Declaration, makes_feed, first_feed}
use Rattle.cml_grammar.proofs.RingLemmas.{behind, feed_number}
use Rattle.cml_grammar.proofs.script.Script.first_feed.Goals.{After-find}
use Rattle.cml_grammar.proofs.script.Script.first_feed.Goals as goal

-- what the code finds is the first feed
found : (c : After-find) → option_map (λ (d : Bor Declaration). d.now.line.number) c.find.result ≡ first_feed c.args.self.now
found c =
    let i = c.self.inside in
    behind c.find.result
    ∙ ap (option_map (λ (d : Declaration). d.line.number)) (find_from_yields_List (λ (d : Declaration). makes_feed d.makes) c.find.new.self
    _ c.find.result c.find.ensures.ran (YieldsList-from_slice i.kept.declarations.items cc) (λ x b q k. search (rules, tests)))
    ∙ feed_number _ i.kept.declarations.items c.self.invariant.declarations
    ∙ ap first_feed c.self.view_is

pub returns-in_err-feed : goal.returns-in_err-feed
returns-in_err-feed c =
    c.from_residual.ensures ∙ ap (option_map (λ (d : Bor Declaration). d.now.line.number)) (sym c.in_err-feed.was)
    ∙ found (goal.at.returns-in_err-feed c).After-find

pub returns : goal.returns
returns c = ap (option_map (λ (d : Bor Declaration). d.now.line.number)) (sym c.in_ok-feed.was) ∙ found (goal.at.returns c).After-find
