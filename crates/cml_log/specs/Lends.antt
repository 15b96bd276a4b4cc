-- What the blocks end as, once a `&mut` into one of them has ended.
use Rattle.std.specs.Prelude.{ℕ, Some, slice_set}
use Rattle.std.specs.Borrow.{Fml, RattleType, MutBor, Lends}
use denote.RawPtr.{Ptr}
use Rattle.cml_log.specs.declared.chunk.raw.Blocks.{Blocks}
use Rattle.cml_log.specs.contracts.chunk.raw.Blocks.{the_row}

-- the same blocks, with this content in the one of this number
abbrev pub with_content : {C : Type 0} → Blocks C → ℕ → Ptr → C → Blocks C
with_content blocks number at content =
    record { mark = blocks.mark; kept = slice_set blocks.kept number (Some (at, content)) }

abbrev pub lends_block : (R : RattleType) → MutBor (Blocks R.Denot) → ℕ → Ptr → MutBor R.Denot → Fml
lends_block R blocks number at lent =
    Lends (the_row R) R blocks lent (with_content blocks.now number at)
