use Rattle.std.proofs.Common.{◌∙◌}
use Rattle.cml_grammar.proofs.NameLemmas.{position-texts}
use Rattle.cml_grammar.proofs.names.position_of.Goals as goal

pub returns : goal.returns
returns c = c.get_index_of.ensures.index ∙ position-texts c.args.names.now.entries c.args.word.now
