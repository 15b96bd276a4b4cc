use Rattle.std.proofs.Common.{◌≡◌, ◌++◌, take, string_bytes}
use Rattle.std.specs.List.{flat_map}
use Rattle.cml_journal.specs.{byte_text}
use Rattle.cml_journal.proofs.bytes.write_bytes.Given as goal

abbrev pub invariant-loop-byte : goal.invariant-loop-byte
invariant-loop-byte l = string_bytes l.line ≡ string_bytes l.fn.line ++ flat_map byte_text (take l.byte-index l.bytes)
