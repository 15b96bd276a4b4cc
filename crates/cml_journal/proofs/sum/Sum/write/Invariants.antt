use Rattle.std.proofs.Common.{◌≡◌, ◌++◌, take, string_bytes}
use Rattle.cml_journal.proofs.sum.Sum.write.Given as goal

abbrev pub invariant-loop-digit : goal.invariant-loop-digit
invariant-loop-digit l = string_bytes l.text ≡ string_bytes l.fn.text ++ take l.digit-index l.digit-items
