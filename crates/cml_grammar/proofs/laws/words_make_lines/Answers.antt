use Rattle.std.proofs.lemmas.List.Splits.{join_with_byte-slice_split}
use Rattle.cml_grammar.proofs.laws.words_make_lines.Goals as goal

pub returns : goal.returns
returns c = λ line. join_with_byte-slice_split 32 line
