use Rattle.std.proofs.Common.{◌∙◌}
use Rattle.cml_chart.proofs.NameLemmas.{column_texts}
use Rattle.cml_chart.proofs.chart.column_of.Goals as goal

pub returns-clause-column : goal.returns-clause-column
returns-clause-column c = c.get_index_of.ensures.index ∙ column_texts c.args.names.now.keys c.args.name.now
