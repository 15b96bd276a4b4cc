-- What holds of the fields of each plain log.
use Rattle.std.specs.Prelude.{ℕ, ◌+◌, ◌*◌, ◌/◌, ◌<◌, ◌≤◌, max, min}
use Rattle.cml_log.specs.Log.{Log, next_of}
use Rattle.cml_log.specs.Holds.{IsTidy}

-- how many places a chunk has: this many, brought within 1 and 1,024
abbrev pub chunk_of : ℕ → ℕ
chunk_of n = min (max n 1) 1024

-- the log is tidy, and has room for each item of the next place's chunk
pub record IsSound {T : Type 0} (chunk : ℕ) (l : Log T) (capacity : ℕ) : Type 0 where
  pub holds_one : 0 < chunk
  pub small : chunk ≤ 1024
  pub tidy : IsTidy chunk l
  pub counted : next_of l ≤ 18446744073709551614
  pub room : chunk * (next_of l / chunk + 1) ≤ l.first + capacity
