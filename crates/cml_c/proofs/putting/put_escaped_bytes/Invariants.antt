use Rattle.std.proofs.Common.{take}
use Rattle.std.specs.List.{flat_map}
use Rattle.cml_journal.specs.{byte_text}
use Rattle.cml_c.specs.{Puts}
use Rattle.cml_c.proofs.putting.put_escaped_bytes.Given as goal

-- the bytes before this one are written
abbrev pub invariant-loop-byte : goal.invariant-loop-byte
invariant-loop-byte l = Puts (flat_map byte_text (take l.byte-index l.bytes)) l.at l.initial.buffer l.buffer l.end
