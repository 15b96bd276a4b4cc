use Rattle.std.proofs.Common.{◌∙◌}
use Rattle.cml_grammar.proofs.NameLemmas.{lookup-texts}
use Rattle.cml_grammar.proofs.names.find_named.Goals as goal

pub returns : goal.returns
returns c = c.copied.ensures ∙ c.get.ensures.value ∙ lookup-texts c.args.names.now.entries c.args.word.now
