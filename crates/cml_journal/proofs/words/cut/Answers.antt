use Rattle.std.proofs.Common.{lit<}
use Rattle.std.proofs.lemmas.Str.Pattern.{split_parts}
use Rattle.cml_journal.proofs.CutWordsLemmas.{cut_is}
use Rattle.cml_journal.proofs.words.cut.Goals as goal

pub returns : goal.returns
returns c =
    cut_is c.args.line.now c.split_once.result (split_parts 32 c.args.line.now c.split_once.result c.split_once.ensures.cases (lit< tt))
