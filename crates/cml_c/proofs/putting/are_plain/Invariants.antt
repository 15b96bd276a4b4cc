use Rattle.std.proofs.Common.{◌≡◌, take}
use Rattle.std.specs.List.{list_all}
use Rattle.cml_journal.specs.{is_plain}
use Rattle.cml_c.proofs.putting.are_plain.Given as goal

-- the bytes before this one
abbrev pub invariant-loop-byte : goal.invariant-loop-byte
invariant-loop-byte l = l.plain ≡ list_all is_plain (take l.byte-index l.bytes)
