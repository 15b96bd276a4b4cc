use Rattle.std.proofs.Common.{ap}
use Rattle.cml_calls.specs.{given}
use Rattle.cml_grammar.specs.declared.forms.Place.TheVariants.{Object}
use Rattle.cml_grammar.specs.{step_places, texts_of}
use Rattle.cml_grammar.proofs.MeaningLemmas.{step_message}
use Rattle.cml_grammar.proofs.meaning.action_by.Goals as goal

pub message_in-requires : goal.message_in-requires
message_in-requires c =
    step_message (texts_of c.args.names.now.entries) c.args.verb (Object (given c.in-Give.give).takers) c.args.rest.now _ c.in-Some.more.now
    c.requires (ap step_places c.in-Give.is) c.in-Some.ensures.cases.0
