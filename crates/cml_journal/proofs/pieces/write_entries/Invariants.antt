use Rattle.std.proofs.Common.{◌≡◌, ◌++◌, take, string_bytes}
use Rattle.std.specs.List.{flat_map}
use Rattle.cml_journal.specs.{line_of, with_line_end, AreShort}
use Rattle.cml_journal.proofs.pieces.write_entries.Given as goal

abbrev pub invariant-loop-entry : goal.invariant-loop-entry
invariant-loop-entry g l = record {
  lines : string_bytes l.text ≡ string_bytes l.fn.text
      ++ flat_map (λ entry. with_line_end (line_of (g.S.Spelling.word l.spelling) entry)) (take l.entry-index l.entries);
  at : l.place ≡ l.entry-index;
  short : AreShort (g.S.Spelling.word l.spelling) (take l.entry-index l.entries);
}
