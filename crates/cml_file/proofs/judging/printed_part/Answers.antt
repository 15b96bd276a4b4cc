use Rattle.std.proofs.Common.{sym, ◌∙◌}
use Rattle.cml_file.proofs.JudgingLemmas.{no_zero, zero_parts}
use Rattle.cml_file.proofs.judging.printed_part.Goals as goal

pub returns-in-Some : goal.returns-in-Some
returns-in-Some c = sym (zero_parts c.args.bytes.now c.in-Some.end (sym c.zero_at.ensures ∙ c.in-Some.is)).1

pub returns-in-None : goal.returns-in-None
returns-in-None c = sym (no_zero c.args.bytes.now (sym c.zero_at.ensures ∙ c.in-None.is))
