-- A `&` to the blocks is made where one to a content is. Assumes `Logic`.
use Rattle.std.specs.Prelude.{List, [], ◌∷◌, Option, Some, None}
use seplogic.Ra.Ura.{Ura}
use mir.Raw.{raw}
use base.Fraction.{full_share}
use base.Fml.{Lft, Incl, ftrue}
use types.Logic.{Logic}
use denote.Memory.{lone}
use denote.Param.Laws.{Laws}
use denote.RattleType.{RattleType, RowLaws}
use denote.RawPtr.{Ptr, lies_at}
use denote.Sharing.{ShrLaws}
use denote.SharingLaws.{beside_shr_laws, nothing_shr_laws, said_shr_laws}
use denote.Shares.{Shares-less}
use denote.Struct.Lending.{lent_at, lent_at_shr_laws, Lends, Lends-both, Lends-first, Lends-lies, Lends-nothing, Lends-said}
use Rattle.cml_log.specs.{token, fits, block_owns, blocks_own, block_lent, blocks_lent}

module _ (R : RattleType) (L : RowLaws R) where
  one_laws : (block : Option (Ptr × R.Denot)) → ShrLaws (block_lent R block)
  one_laws None = nothing_shr_laws
  one_laws (Some block) = lent_at_shr_laws R L block.0 block.1

  pub lent_laws : (kept : List (Option (Ptr × R.Denot))) → ShrLaws (blocks_lent R kept)
  lent_laws [] = said_shr_laws (fits R) tt
  lent_laws (block ∷ rest) = beside_shr_laws (block_lent R block) (blocks_lent R rest) (one_laws block) (lent_laws rest)

module _ {M : Type 1} {𝓤 : Ura M} (𝓛 : Logic 𝓤) (l : Lft) (R : RattleType) (L : Laws R) (within : Incl l R.lives) where
  Lends-one : (block : Option (Ptr × R.Denot)) → Lends 𝓛 (block_owns R block) (block_lent R block) l
  Lends-one None = Lends-nothing 𝓛 ftrue l
  Lends-one (Some block) =
      Lends-first 𝓛 (lies_at R full_share block.0 block.1) (token (raw (lone R.mir)) block.0) (lent_at R block.0 block.1) l
      (Lends-lies 𝓛 R l block.0 block.1 (Shares-less 𝓛 R R.lives l within (L.shares 𝓛) block.1))

  pub Lends-all : (kept : List (Option (Ptr × R.Denot))) → Lends 𝓛 (blocks_own R kept) (blocks_lent R kept) l
  Lends-all [] = Lends-said 𝓛 (fits R) tt l
  Lends-all (block ∷ rest) =
      Lends-both 𝓛 (block_owns R block) (blocks_own R rest) (block_lent R block) (blocks_lent R rest) l (Lends-one block) (Lends-all rest)
