-- What holds of the fields of each chain of chunks.
use Rattle.std.specs.Prelude.{◌≡◌, ℕ, ◌+◌, ◌-◌, ◌*◌, ◌/◌, ◌<◌, ◌≤◌, List, length, take, drop, Option, Some, None}
use denote.RawPtr.{Ptr}
use Rattle.cml_log.specs.declared.chunk.raw.Address.{Address}
use Rattle.cml_log.specs.declared.chunk.Chunk.{Chunk}
use Rattle.cml_log.specs.Blocks.{block_at}
use Rattle.cml_log.specs.Contents.{row_at, taken_at, link_at, items_of}

module _ {T : Type 0} {N : ℕ} where
  -- each chunk from the head to the tail holds its part of the items, and is linked to the next
  pub record IsLinked (kept : List (Option (Ptr × Chunk T N))) (head tail : Address) : Type 0 where
    pub order : head.number ≤ tail.number
    pub last : length kept ≡ tail.number + 1
    pub starts : (chunk : Chunk T N) × (block_at kept head.number ≡ Some (head.at, chunk))
    pub finishes : (chunk : Chunk T N) × (block_at kept tail.number ≡ Some (tail.at, chunk))
    pub gone : (number : ℕ) → number < head.number → block_at kept number ≡ None
    pub links : (number : ℕ) → head.number ≤ number → number < tail.number → (next : Address) × (chunk : Chunk T N)
        × (link_at kept number ≡ Some next) × (next.number ≡ number + 1) × (block_at kept next.number ≡ Some (next.at, chunk))
    pub rows : (number : ℕ) → head.number ≤ number → row_at kept number ≡ take N (drop (N * (number - head.number)) (items_of kept))

  -- the chain ends at the tail, in the chunk of the next place, the counts are those of its chunks, and
  -- items were moved out of the head alone
  pub record IsChain (kept : List (Option (Ptr × Chunk T N))) (head tail : Address) (next made given : ℕ) : Type 0 where
    pub holds_one : 0 < N
    pub small : N ≤ 1024
    pub linked : IsLinked kept head tail
    pub ends : next ≡ N * head.number + length (items_of kept)
    pub in_tail : next / N ≡ tail.number
    pub bounded : next ≤ 18446744073709551614
    pub made_is : made ≡ length kept
    pub given_is : given ≡ head.number
    pub whole : (number : ℕ) → head.number < number → taken_at kept number ≡ 0
