-- What a handle or a keeper owns: the block of memory in which what it leads to lies; and what a slot or a share owns: that of a
-- handle or a keeper that was written there, or nothing.
use Rattle.std.specs.Prelude.{Option, Some, None}
use base.Fml.{Fml, ftrue}
use denote.RattleType.{RattleType}
use denote.RawPtr.{Ptr}
use Rattle.std.specs.Coded.{Coded, coded_option}
use Rattle.std_alloc.specs.Box.Ownership.{box_owns}
use Rattle.std.specs.declared.alloc.Global.{Global}
use Rattle.std.specs.contracts.impls.GlobalAllocator.TheImpl.{ghosts}

module _ (row : RattleType) where
  abbrev pub owned_coded : Coded row.Denot
  owned_coded = row.coded

  abbrev pub handle_owns : Global → Ptr → row.Denot → Fml
  handle_owns alloc at owned = box_owns (ghosts.dealloc_token alloc) row at owned

  abbrev pub slot_coded : Coded (Option row.Denot)
  slot_coded = coded_option row.coded

  abbrev pub slot_owns : Global → Ptr → Option row.Denot → Fml
  slot_owns alloc at None = ftrue
  slot_owns alloc at (Some owned) = handle_owns alloc at owned
