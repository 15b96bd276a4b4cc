-- SHA-256 of a text that comes byte by byte.
use Rattle.std.specs.Prelude.{ℕ, ◌+◌, ◌%◌, ◌^◌, ◌==◌, if◌then◌else◌, List, [], ◌∷◌, ◌++◌, length, take}
use Rattle.sha2.specs.Sha256.{initial_hash_256, compress, padding, digest_bytes, sha256}
use Rattle.sha2.specs.declared.Sha256.{Sha256}
use Rattle.cml_journal.specs.declared.sum.Sum.{Sum}

-- the sum of a text
abbrev pub sum_of : List ℕ → Sum
sum_of text = record { 0 = sha256 text }

-- How far a text is summed: how many bytes it has, modulo 2 ^ 64, the hash value after its whole blocks, and the bytes left.
pub record Summed : Type 0 where
  pub count : ℕ
  pub value : List ℕ
  pub left : List ℕ

abbrev pub nothing_summed : Summed
nothing_summed = record { count = 0; value = initial_hash_256; left = [] }

-- a byte more: with 64 bytes, a block is whole
abbrev pub and_byte : Summed → ℕ → Summed
and_byte summed byte = if length summed.left == 63
    then record { count = (summed.count + 1) % 2 ^ 64; value = compress summed.value (summed.left ++ byte ∷ []); left = [] }
    else record { count = (summed.count + 1) % 2 ^ 64; value = summed.value; left = summed.left ++ byte ∷ [] }

unfoldable pub and_bytes : Summed → List ℕ → Summed
and_bytes summed [] = summed
and_bytes summed (byte ∷ bytes) = and_bytes (and_byte summed byte) bytes

-- the sum of the bytes so far: of the last block with its padding
abbrev pub sum_by : Summed → Sum
sum_by summed = record { 0 = digest_bytes (and_bytes summed (padding summed.count)).value 8 }

-- how far a hasher is
abbrev pub summed_of : Sha256 → Summed
summed_of hasher = record {
  count = hasher.core.total;
  value = hasher.core.h;
  left = take (hasher.core.total % 64) hasher.core.buffer;
}
