-- Which ring an end is of.
use Rattle.std.specs.Global.{Global}
use denote.RawPtr.{Ptr}
use Rattle.rtrb.specs.Shared.{Names}
use Rattle.rtrb.specs.declared.end.End.{End}

-- a ring: two ends are of one ring just where these are equal
pub record Ring : Type 0 where
  pub words : Ptr
  pub slots : Ptr
  pub names : Names
  pub heap : Global

abbrev pub ring_of : {M P : Type 0} → End M Global P → Ring
ring_of end = record { words = end.words; slots = end.slots; names = end.names; heap = end.heap }
