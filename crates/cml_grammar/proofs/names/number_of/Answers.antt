use Rattle.std.proofs.Common.{◌∙◌, arith}
use Rattle.std.proofs.lemmas.Grind.{common_steps}
use Rattle.cml_grammar.proofs.NameLemmas.{number_from_parse}
use Rattle.cml_grammar.proofs.names.number_of.Goals as goal

pub returns : goal.returns
returns c = c.ok.ensures.value ∙ number_from_parse c.args.word.now c.parse.result c.parse.ensures.value.0 (grind (arith, common_steps))
    (grind (arith, common_steps)) (grind (arith, common_steps))

pub returns-then-first-eq48 : goal.returns-then-first-eq48
returns-then-first-eq48 c = grind (arith, common_steps)
