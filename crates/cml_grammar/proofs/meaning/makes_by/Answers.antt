use Rattle.std.proofs.Common.{subst, sym, ap, ◌∙◌}
use Rattle.std.specs.Option.{option_map}
use Rattle.cml_grammar.specs.{Declares, declared_places, makes_by, texts_of, AllSuit}
use Rattle.cml_grammar.specs.declared.forms.Declares.TheVariants.{MVar}
use Rattle.cml_grammar.specs.declared.forms.Makes.TheVariants as makes
use Rattle.cml_grammar.proofs.MeaningLemmas.{Words, bytes, first_message, made_with}
use Rattle.cml_grammar.proofs.SuitingLemmas.{made_well}
use Rattle.cml_grammar.proofs.meaning.makes_by.Goals as goal

pub message_in-requires : goal.message_in-requires
message_in-requires c =
    let names = texts_of c.args.names.now.entries in
    let suit = subst (λ (d : Declares). AllSuit names (declared_places d (bytes c.args.rest.now)) (bytes c.args.rest.now))
    c.in-MVar.is c.requires.suits in
    first_message names c.in-Some-split_first.field-0-0.now c.in-Some-split_first.words.now
    (sym c.is_empty.ensures ∙ c.if-not-is_empty.true)
    (subst (λ (ws : Words). AllSuit names (declared_places MVar (bytes ws)) (bytes ws)) c.in-Some-split_first.ensures.cases.0 suit)

pub returns-in_ok-message-in-Some-split_first-clause-makes : goal.returns-in_ok-message-in-Some-split_first-clause-makes
returns-in_ok-message-in-Some-split_first-clause-makes c =
    let names = texts_of c.args.names.now.entries in
    ap (λ (d : Declares). makes_by names d (bytes c.args.rest.now)) c.in-MVar.is
    ∙ ap (λ (ws : Words). makes_by names MVar (bytes ws)) c.in-Some-split_first.ensures.cases.0
    ∙ made_with names c.in-Some-split_first.field-0-0.now c.in-Some-split_first.words.now _
    c.in_ok-message-in-Some-split_first.ensures.value

pub returns-in-Feed-clause-uses : goal.returns-in-Feed-clause-uses
returns-in-Feed-clause-uses c =
    let rest = bytes c.args.rest.now in
    let names = texts_of c.args.names.now.entries in
    made_well names c.args.declares rest (makes.Feed c.feed_by.result) c.requires.seats c.requires.suits
    (ap (λ (d : Declares). makes_by names d rest) c.in-Feed.is ∙ ap (option_map makes.Feed) c.feed_by.ensures)
