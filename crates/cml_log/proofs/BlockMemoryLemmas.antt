-- One number's block is cut out of the blocks, put back, added at the end, or seen. Assumes `Logic`.
use Rattle.std.proofs.Common.{ℕ, zero, suc, ◌^◌, ◌<◌, List, [], ◌∷◌, ◌++◌}
use Rattle.std.specs.Prelude.{Option, None, slice_index_or, slice_set}
use seplogic.Ra.Ura.{Ura}
use base.Logic.{ent, sep, emp}
use prog.Memory.{size}
use contract.Monad.{fact, fact_i}
use base.Fml.{Lft}
use types.Logic.{Logic, sem}
use types.Kit.{‵, ◌⊛◌, ◌$◌, ◌∵◌, !, qed, by, move, keep, drop, use1, use2, split, fsplit, fjoin, flt_l, done}
use denote.RattleType.{RattleType}
use denote.Param.{layout}
use denote.RawPtr.{Ptr}
use denote.Steps.{nothing}
use Rattle.cml_log.specs.{fits, block_owns, blocks_own, block_lent, blocks_lent}

module _ (R : RattleType) where
  abbrev Slot : Type 0
  Slot = Option (Ptr × R.Denot)

  module _ {M : Type 1} {𝓤 : Ura M} (𝓛 : Logic 𝓤) where
    pub block_cut : (kept : List Slot) (n : ℕ)
        → ent 𝓤 (sem 𝓛 (blocks_own R kept))
        (sep 𝓤 (sem 𝓛 (block_owns R (slice_index_or kept n None))) (sem 𝓛 (blocks_own R (slice_set kept n None))))
    block_cut [] n = qed 𝓛 (‵ (fits R) ∷ []) ∵ nothing ! $ done !
    block_cut (slot ∷ rest) zero = qed 𝓛 (‵ (blocks_own R (slot ∷ rest)) ∷ []) ∵ fsplit ! $ move ! (1 ∷ []) $ nothing ! $
        fjoin ! $ move ! (1 ∷ 0 ∷ []) $ done !
    block_cut (slot ∷ rest) (suc n) = qed 𝓛 (‵ (blocks_own R (slot ∷ rest)) ∷ []) ∵ fsplit ! $ move ! (1 ∷ []) $
        use1 𝓛 (‵ (block_owns R (slice_index_or rest n None)) ⊛ ‵ (blocks_own R (slice_set rest n None))) (block_cut rest n) $ split ! $
        move ! (2 ∷ 1 ∷ []) $ fjoin ! $ move ! (1 ∷ 0 ∷ []) $ done !

    pub block_glue : (kept : List Slot) (n : ℕ) (slot : Slot)
        → ent 𝓤 (sep 𝓤 (sem 𝓛 (block_owns R slot)) (sem 𝓛 (blocks_own R (slice_set kept n None))))
        (sem 𝓛 (blocks_own R (slice_set kept n slot)))
    block_glue [] n slot = qed 𝓛 (‵ (block_owns R slot) ∷ ‵ (fits R) ∷ []) ∵ drop ! $ done !
    block_glue (_ ∷ rest) zero slot = qed 𝓛 (‵ (block_owns R slot) ∷ ‵ (blocks_own R (None ∷ rest)) ∷ []) ∵ move ! (1 ∷ []) $ fsplit ! $
        drop ! $ move ! (1 ∷ 0 ∷ []) $ fjoin ! $ done !
    block_glue (first ∷ rest) (suc n) slot = qed 𝓛 (‵ (block_owns R slot) ∷ ‵ (blocks_own R (first ∷ slice_set rest n None)) ∷ []) ∵
        move ! (1 ∷ []) $ fsplit ! $ move ! (2 ∷ 1 ∷ []) $
        use2 𝓛 (‵ (blocks_own R (slice_set rest n slot))) (block_glue rest n slot) $ move ! (1 ∷ 0 ∷ []) $ fjoin ! $ done !

    pub block_push : (kept : List Slot) (slot : Slot)
        → ent 𝓤 (sep 𝓤 (sem 𝓛 (blocks_own R kept)) (sem 𝓛 (block_owns R slot))) (sem 𝓛 (blocks_own R (kept ++ slot ∷ [])))
    block_push [] slot = qed 𝓛 (‵ (fits R) ∷ ‵ (block_owns R slot) ∷ []) ∵ move ! (1 ∷ 0 ∷ []) $ fjoin ! $ done !
    block_push (first ∷ rest) slot = qed 𝓛 (‵ (blocks_own R (first ∷ rest)) ∷ ‵ (block_owns R slot) ∷ []) ∵ fsplit ! $ move ! (1 ∷ 2 ∷ []) $
        use2 𝓛 (‵ (blocks_own R (rest ++ slot ∷ []))) (block_push rest slot) $ move ! (1 ∷ 0 ∷ []) $ fjoin ! $ done !

    pub block_seen : (κ : Lft) (kept : List Slot) (n : ℕ)
        → ent 𝓤 (sem 𝓛 (blocks_lent R kept κ)) (sem 𝓛 (block_lent R (slice_index_or kept n None) κ))
    block_seen κ [] n = qed 𝓛 (‵ (blocks_lent R [] κ) ∷ []) ∵ drop ! $ nothing ! $ done !
    block_seen κ (slot ∷ rest) zero = qed 𝓛 (‵ (blocks_lent R (slot ∷ rest) κ) ∷ []) ∵ fsplit ! $ keep ! (0 ∷ []) $ done !
    block_seen κ (slot ∷ rest) (suc n) = qed 𝓛 (‵ (blocks_lent R (slot ∷ rest) κ) ∷ []) ∵ fsplit ! $ drop ! $ by ! (block_seen κ rest n)

    -- a content of blocks that are lent fits in memory
    pub fits_seen : (κ : Lft) (kept : List Slot) → ent 𝓤 (sem 𝓛 (blocks_lent R kept κ)) (fact 𝓤 (size (layout R) < 2 ^ 63))
    fits_seen κ [] = qed 𝓛 (‵ (fits R) ∷ []) ∵ flt_l ! (λ below. by ! (fact_i 𝓤 (size (layout R) < 2 ^ 63) (emp 𝓤) below))
    fits_seen κ (slot ∷ rest) = qed 𝓛 (‵ (blocks_lent R (slot ∷ rest) κ) ∷ []) ∵ fsplit ! $ drop ! $ by ! (fits_seen κ rest)
