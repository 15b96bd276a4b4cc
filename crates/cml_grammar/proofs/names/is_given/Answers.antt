use Rattle.std.proofs.Common.{◌∙◌}
use Rattle.cml_grammar.proofs.NameLemmas.{is_some-lookup}
use Rattle.cml_grammar.proofs.names.is_given.Goals as goal

pub returns : goal.returns
returns c = c.contains_key.ensures ∙ is_some-lookup c.args.names.now.entries c.args.word.now
