use Rattle.std.proofs.Common.{lit<}
use Rattle.std.proofs.lemmas.Str.Pattern.{strip_suffix_char}
use Rattle.cml_journal.proofs.CutWordsLemmas.{without_colon_is}
use Rattle.cml_journal.proofs.words.without_colon.Goals as goal

pub returns : goal.returns
returns c = without_colon_is c.args.word.now c.strip_suffix.result
    (strip_suffix_char 58 c.args.word.now c.strip_suffix.result c.strip_suffix.ensures.cases (lit< tt))
