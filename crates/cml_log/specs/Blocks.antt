-- The blocks of a log: each under its number, with where it lies and its content, or nothing where it was taken.
use Rattle.std.specs.Prelude.{◌≡◌, ℕ, ◌^◌, ◌==◌, cond, List, [], ◌∷◌, Option, Some, None, slice_index_or, ⊤}
use base.Fml.{Lft, Fml, ftrue, flt, fsep}
use prog.Memory.{size}
use denote.RattleType.{RattleType}
use denote.RawPtr.{Ptr}
use denote.Param.{layout}
use denote.Sharing.{nothing, said, beside}
use denote.Struct.Lending.{lent_at}
use Rattle.std_alloc.specs.Box.Ownership.{box_owns}
use mir.Syntax.{Ty}
use Rattle.std.specs.declared.alloc.Global.{Global}
use Rattle.cml_log.specs.declared.chunk.raw.Address.{Address}
use Rattle.std.specs.contracts.impls.GlobalAllocator.TheImpl.{ghosts}

-- where a link leads that stores this address: nowhere if that is of the first block
abbrev pub link_to : Address → Option Address
link_to next = cond (next.number == 0) None (Some next)

module _ {C : Type 0} where
  -- the block of this number, if it is kept
  abbrev pub block_at : List (Option (Ptr × C)) → ℕ → Option (Ptr × C)
  block_at kept number = slice_index_or kept number None

  -- the block of this number is kept, and lies there
  abbrev pub IsKept : List (Option (Ptr × C)) → ℕ → Ptr → Type 0
  IsKept kept number at = (content : C) × (block_at kept number ≡ Some (at, content))

  -- each block was taken
  abbrev pub IsBare : List (Option (Ptr × C)) → Type 0
  IsBare [] = ⊤
  IsBare (None ∷ rest) = IsBare rest
  IsBare (Some block ∷ rest) = ⊥

-- a handle to the heap: all are alike
abbrev pub heap : Global
heap = record { memory = record { seal = tt } }

-- the right to give a block of the heap back
abbrev pub token : Ty → Ptr → Fml
token = ghosts.dealloc_token heap

module _ (R : RattleType) where
  -- a content fits in memory
  abbrev pub fits : Fml
  fits = flt (size (layout R)) (2 ^ 63)

  -- what the right to a block owns
  abbrev pub right_owns : Ptr → R.Denot → Fml
  right_owns at content = box_owns token R at content

  -- what a number owns: the right to its block, if that is kept
  abbrev pub block_owns : Option (Ptr × R.Denot) → Fml
  block_owns None = ftrue
  block_owns (Some block) = right_owns block.0 block.1

  -- what the blocks own: the right to each that is kept, and that a content fits in memory
  abbrev pub blocks_own : List (Option (Ptr × R.Denot)) → Fml
  blocks_own [] = fits
  blocks_own (block ∷ rest) = fsep (block_owns block) (blocks_own rest)

  abbrev pub block_lent : Option (Ptr × R.Denot) → Lft → Fml
  block_lent None = nothing
  block_lent (Some block) = lent_at R block.0 block.1

  -- what is lent by a `&` to the blocks: the content of each that is kept, and that one fits in memory
  abbrev pub blocks_lent : List (Option (Ptr × R.Denot)) → Lft → Fml
  blocks_lent [] = said fits
  blocks_lent (block ∷ rest) = beside (block_lent block) (blocks_lent rest)
