use Rattle.std.proofs.Common.{◌≡◌, ◌++◌, map, take, string_bytes}
use Rattle.cml_journal.specs.{shown_byte}
use Rattle.cml_journal.proofs.due.write_shown.Given as goal

abbrev pub invariant-loop-byte : goal.invariant-loop-byte
invariant-loop-byte l = string_bytes l.text ≡ string_bytes l.fn.text ++ map shown_byte (take l.byte-index l.bytes)
