use Rattle.std.proofs.Common.{◌++◌, take, string_bytes}
use Rattle.std.specs.List.{flat_map}
use Rattle.cml_journal.specs.{line_of, with_line_end, WritesSummed}
use Rattle.cml_journal.proofs.pieces.write_lines.Given as goal

abbrev pub invariant-loop-entry : goal.invariant-loop-entry
invariant-loop-entry g l = WritesSummed (g.W.Write.contents l.fn.writer) (g.W.Write.contents l.writer)
    (string_bytes l.fn.text ++ flat_map (λ entry. with_line_end (line_of g.M.Written.text entry)) (take l.entry-index l.entries))
    (string_bytes l.text) l.fn.summing l.summing
