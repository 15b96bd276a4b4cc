use Rattle.std.proofs.Common.{◌≡◌, ◌≤◌, ◌++◌, length, take, drop}
use Rattle.cml_journal.specs.{AreShort}
use Rattle.cml_c.specs.{lines_of}
use Rattle.cml_c.proofs.entry_lines.add_lines.Given as goal

-- the lines of the entries before this one are there
abbrev pub invariant-loop-entry : goal.invariant-loop-entry
invariant-loop-entry g l = record {
  count : l.count ≡ l.entry-index;
  long : l.length ≡ length (lines_of g.M.Written.text (take l.entry-index l.entries));
  within : l.length ≤ length l.initial.buffer;
  written : l.buffer ≡ lines_of g.M.Written.text (take l.entry-index l.entries) ++ drop l.length l.initial.buffer;
  short : AreShort g.M.Written.text (take l.entry-index l.entries);
}
