use Rattle.std.proofs.Common.{length}
use Rattle.cml_grammar.proofs.LinesLemmas.{ReadsOn}
use Rattle.cml_grammar.proofs.read.read_lines.Given as goal

abbrev pub invariant-loop-line : goal.invariant-loop-line
invariant-loop-line l = ReadsOn l.text l.reading l.number l.rest

abbrev pub decreases-loop-line : goal.decreases-loop-line
decreases-loop-line l = length l.rest
