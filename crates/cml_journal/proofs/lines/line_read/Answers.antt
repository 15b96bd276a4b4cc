use Rattle.std.proofs.Common.{sym, ◌∙◌}
use Rattle.cml_grammar.proofs.WordLemmas.{text_from_bytes}
use Rattle.cml_journal.proofs.lines.line_read.Goals as goal

pub unreachable-requires : goal.unreachable-requires
unreachable-requires g c = c.in-Err.ensures.cases.0 (text_from_bytes c.args.line.now (sym c.has_bad_byte.ensures ∙ c.if-has_bad_byte.false))
