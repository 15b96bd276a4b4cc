use Rattle.std.proofs.Common.{◌≡◌, take}
use Rattle.cml_journal.specs.{AreShort}
use Rattle.cml_journal.proofs.pieces.too_long.Given as goal

abbrev pub invariant-loop-entry : goal.invariant-loop-entry
invariant-loop-entry g l = record {
  at : l.place ≡ l.entry-index;
  short : AreShort g.M.Written.text (take l.entry-index l.entries);
}
