use Rattle.std.proofs.Common.{◌∙◌}
use Rattle.cml_chart.proofs.NameLemmas.{among_texts}
use Rattle.cml_chart.proofs.chart.is_among.Goals as goal

pub returns : goal.returns
returns c = c.contains.ensures ∙ among_texts c.args.names.now.keys c.args.name.now
