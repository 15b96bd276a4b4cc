-- Lemmas on the blocks of a chain.
use Rattle.std.proofs.Common.{◌≡◌, ◌≢◌, ℕ, zero, suc, ◌+◌, ◌<◌, List, [], ◌∷◌, ◌++◌, length, set, map, drop, Option, Some}
use Rattle.std.proofs.Common.{None, refl, sym, ap, ◌∙◌, inl, inr, arith}
use Rattle.std.proofs.Math.ListN.{get_or-map}
use Rattle.std.proofs.Math.Seq.{drop-append_seam}
use Rattle.std.proofs.lemmas.Bool.{cases_eq, cases_lt}
use Rattle.std.proofs.lemmas.List.{get_or-set_same, get_or-set_other, get_or_past, append-nil, append_assoc}
use denote.RawPtr.{Ptr}
use Rattle.cml_log.specs.{Chunk, block_at, IsKept, IsBare, row_of, taken_of, taken_at, cell_of, items_of, cell_at, LiesAt}

-- the pointer of a cell
abbrev lie_or : Ptr → Option (Ptr × ℕ) → Ptr
lie_or other None = other
lie_or other (Some cell) = cell.0

module _ {T : Type 0} {N : ℕ} where
  -- a number is kept only where it was given
  pub within_found : (kept : List (Option (Ptr × Chunk T N))) (number : ℕ) (block : Ptr × Chunk T N)
      → block_at kept number ≡ Some block → number < length kept
  within_found kept number block found = elim (cases_lt number (length kept)) [
    | inl inside ↦ inside
    | inr past ↦ absurd (let none = get_or_past kept number None past in cc)
  ]

  pub cell_shows : (kept : List (Option (Ptr × Chunk T N))) (number : ℕ)
      → cell_at (map cell_of kept) number ≡ cell_of (block_at kept number)
  cell_shows kept number = get_or-map cell_of kept number None

  -- a block that lies there is kept
  pub kept_where_lies : (kept : List (Option (Ptr × Chunk T N))) (number : ℕ) (at : Ptr)
      → LiesAt (map cell_of kept) number at → IsKept kept number at
  kept_where_lies kept number at lies = by_block (block_at kept number) (sym (cell_shows kept number) ∙ lies.1)
    where
      by_block : (block : Option (Ptr × Chunk T N)) → cell_of block ≡ Some (at, lies.0)
          → (content : Chunk T N) × (block ≡ Some (at, content))
      by_block None none = absurd (cc)
      by_block (Some block) here = (block.1, ap (λ p. Some (p, block.1)) (ap (lie_or at) here))

  pub lies_where_kept : (kept : List (Option (Ptr × Chunk T N))) (number : ℕ) (at : Ptr) → IsKept kept number at
      → LiesAt (map cell_of kept) number at
  lies_where_kept kept number at found = (found.0.cursors, cell_shows kept number ∙ ap cell_of found.1)

  -- a block is looked up after one was changed
  pub block_at-here : (kept : List (Option (Ptr × Chunk T N))) (number : ℕ) (block : Ptr × Chunk T N) (slot : Option (Ptr × Chunk T N))
      → block_at kept number ≡ Some block → block_at (set kept number slot) number ≡ slot
  block_at-here kept number block slot found = get_or-set_same kept number slot None (within_found kept number block found)

  pub block_at-other : (kept : List (Option (Ptr × Chunk T N))) (number other : ℕ) (slot : Option (Ptr × Chunk T N)) → other ≢ number
      → block_at (set kept number slot) other ≡ block_at kept other
  block_at-other kept number other slot differs = get_or-set_other kept number other slot None differs

  -- what doesn't change in a block changes nowhere
  pub same_everywhere : {X : Type 0} (shown : Option (Ptr × Chunk T N) → X) (kept : List (Option (Ptr × Chunk T N))) (number other : ℕ)
      (block : Ptr × Chunk T N) (slot : Option (Ptr × Chunk T N)) → block_at kept number ≡ Some block → shown slot ≡ shown (Some block)
      → shown (block_at (set kept number slot) other) ≡ shown (block_at kept other)
  same_everywhere shown kept number other block slot found same = elim (cases_eq other number) [
    | inl equal ↦
        ap shown (ap (block_at (set kept number slot)) equal ∙ block_at-here kept number block slot found) ∙ same ∙ ap shown (sym found)
        ∙ ap (λ n. shown (block_at kept n)) (sym equal)
    | inr differs ↦ ap shown (block_at-other kept number other slot differs)
  ]

  -- the items stay where a block's row does
  pub items_of-same : (kept : List (Option (Ptr × Chunk T N))) (number : ℕ) (block : Ptr × Chunk T N) (slot : Option (Ptr × Chunk T N))
      → block_at kept number ≡ Some block → row_of slot ≡ row_of (Some block) → items_of (set kept number slot) ≡ items_of kept
  items_of-same [] number block slot found same = refl
  items_of-same (here ∷ rest) zero block slot found same = ap (λ row. row ++ items_of rest) (same ∙ ap row_of (sym found))
  items_of-same (here ∷ rest) (suc number) block slot found same =
      ap (λ items. row_of here ++ items) (items_of-same rest number block slot found same)

  -- an item more in the last block is one more after all
  pub items_of-last : (kept : List (Option (Ptr × Chunk T N))) (number : ℕ) (block : Ptr × Chunk T N) (slot : Option (Ptr × Chunk T N))
      (item : T) → block_at kept number ≡ Some block → length kept ≡ number + 1 → row_of slot ≡ row_of (Some block) ++ item ∷ []
      → items_of (set kept number slot) ≡ items_of kept ++ item ∷ []
  items_of-last [] number block slot item found last more = absurd (omega (arith, last))
  items_of-last (here ∷ []) zero block slot item found last more =
      ap (λ row. row ++ []) (more ∙ ap (λ b. row_of b ++ item ∷ []) (sym found)) ∙ append-nil (row_of here ++ item ∷ [])
      ∙ ap (λ row. row ++ item ∷ []) (sym (append-nil (row_of here)))
  items_of-last (here ∷ next ∷ rest) zero block slot item found last more = absurd (omega (arith, last))
  items_of-last (here ∷ rest) (suc number) block slot item found last more =
      let below = items_of-last rest number block slot item found (omega (arith, last)) more in
      ap (λ items. row_of here ++ items) below ∙ sym (append_assoc (row_of here) (items_of rest) (item ∷ []))

  -- nothing was moved out of a block that is put after all
  pub taken_at-more : (kept : List (Option (Ptr × Chunk T N))) (slot : Option (Ptr × Chunk T N)) (number : ℕ) → taken_of slot ≡ 0
      → taken_at (kept ++ slot ∷ []) number ≡ taken_at kept number
  taken_at-more [] slot zero none = none
  taken_at-more [] slot (suc number) none = refl
  taken_at-more (here ∷ rest) slot zero none = refl
  taken_at-more (here ∷ rest) slot (suc number) none = taken_at-more rest slot number none

  -- an empty block after all has no item
  pub items_of-more : (kept : List (Option (Ptr × Chunk T N))) (slot : Option (Ptr × Chunk T N)) → row_of slot ≡ []
      → items_of (kept ++ slot ∷ []) ≡ items_of kept
  items_of-more [] slot empty = ap (λ row. row ++ []) empty
  items_of-more (here ∷ rest) slot empty = ap (λ items. row_of here ++ items) (items_of-more rest slot empty)

  -- without the first kept block its items are gone
  pub items_of-passed : (kept : List (Option (Ptr × Chunk T N))) (number : ℕ) (block : Ptr × Chunk T N)
      → ((before : ℕ) → before < number → block_at kept before ≡ None) → block_at kept number ≡ Some block
      → items_of (set kept number None) ≡ drop (length block.1.row.items) (items_of kept)
  items_of-passed [] number block gone found = absurd (cc)
  items_of-passed (here ∷ rest) zero block gone found =
      sym (drop-append_seam block.1.row.items (items_of rest))
      ∙ ap (λ b. drop (length block.1.row.items) (row_of b ++ items_of rest)) (sym found)
  items_of-passed (here ∷ rest) (suc number) block gone found =
      let none : here ≡ None = gone 0 (omega arith) in
      let below = items_of-passed rest number block (λ before low. gone (suc before) (omega (arith, low))) found in
      ap (λ b. row_of b ++ items_of (set rest number None)) none ∙ below
      ∙ ap (λ b. drop (length block.1.row.items) (row_of b ++ items_of rest)) (sym none)

  -- blocks of which none is kept are bare
  pub IsBare-gone : (kept : List (Option (Ptr × Chunk T N))) → ((number : ℕ) → block_at kept number ≡ None) → IsBare kept
  IsBare-gone [] gone = tt
  IsBare-gone (None ∷ rest) gone = IsBare-gone rest (λ number. gone (suc number))
  IsBare-gone (Some block ∷ rest) gone = absurd (let none : Some block ≡ None = gone 0 in cc)
