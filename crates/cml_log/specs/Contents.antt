-- What the chunk in the block of a number shows, and a change of one chunk.
use Rattle.std.specs.Prelude.{◌≡◌, ℕ, List, [], ◌∷◌, ◌++◌, Option, Some, None, slice_set}
use denote.RawPtr.{Ptr}
use Rattle.cml_log.specs.declared.chunk.raw.Address.{Address}
use Rattle.cml_log.specs.declared.chunk.Chunk.{Chunk}
use Rattle.cml_log.specs.declared.chunk.KeptChunks.{KeptChunks}
use Rattle.cml_log.specs.Blocks.{block_at}

module _ {T : Type 0} {N : ℕ} where
  -- the items of a block's chunk, and none where it isn't kept
  abbrev pub row_of : Option (Ptr × Chunk T N) → List T
  row_of None = []
  row_of (Some block) = block.1.row.items

  -- the first slot of a block's chunk from which on no item was moved out
  abbrev pub taken_of : Option (Ptr × Chunk T N) → ℕ
  taken_of None = 0
  taken_of (Some block) = block.1.row.taken

  -- where its link leads
  abbrev pub link_of : Option (Ptr × Chunk T N) → Option Address
  link_of None = None
  link_of (Some block) = block.1.link

  -- where it lies, and how many cursors are in it
  abbrev pub cell_of : Option (Ptr × Chunk T N) → Option (Ptr × ℕ)
  cell_of None = None
  cell_of (Some block) = Some (block.0, block.1.cursors)

  abbrev pub row_at : List (Option (Ptr × Chunk T N)) → ℕ → List T
  row_at kept number = row_of (block_at kept number)

  abbrev pub taken_at : List (Option (Ptr × Chunk T N)) → ℕ → ℕ
  taken_at kept number = taken_of (block_at kept number)

  abbrev pub link_at : List (Option (Ptr × Chunk T N)) → ℕ → Option Address
  link_at kept number = link_of (block_at kept number)

  -- the items of all chunks, in order
  abbrev pub items_of : List (Option (Ptr × Chunk T N)) → List T
  items_of [] = []
  items_of (block ∷ rest) = row_of block ++ items_of rest

  -- the chunk of this number, which lies there, was changed so, and no other was
  pub record Rewrites (old new : List (Option (Ptr × Chunk T N))) (number : ℕ) (at : Ptr) (change : Chunk T N → Chunk T N) : Type 0 where
    pub chunk : Chunk T N
    pub found : block_at old number ≡ Some (at, chunk)
    pub kept : new ≡ slice_set old number (Some (at, change chunk))

  -- nothing was made, freed or followed
  pub record KeepsCounts (old new : KeptChunks T N) : Type 0 where
    pub made : new.made.count ≡ old.made.count
    pub given : new.given.count ≡ old.given.count
    pub followed : new.followed.count ≡ old.followed.count

  abbrev pub with_row : List T → Chunk T N → Chunk T N
  with_row items chunk = record chunk { row = record { items = items; taken = chunk.row.taken } }

  abbrev pub with_taken : ℕ → Chunk T N → Chunk T N
  with_taken taken chunk = record chunk { row = record { items = chunk.row.items; taken = taken } }

  abbrev pub with_link : Option Address → Chunk T N → Chunk T N
  with_link next chunk = record chunk { link = next }

  abbrev pub with_cursors : ℕ → Chunk T N → Chunk T N
  with_cursors count chunk = record chunk { cursors = count }
