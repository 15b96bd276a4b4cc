-- Seats, and the answers that are counted for them.
use Rattle.std.specs.Prelude.{ℕ, ◌+◌, List, sum_by}

-- what a seat shows, and what is left of one: its number, and how many answers were counted for it. A left may stand for
-- several seats, which made the entries of a journal; its number is 0 then
pub record Sitting : Type 0 where
  pub number : ℕ
  pub seats : ℕ
  pub share : ℕ

-- one answer more
abbrev pub raised : Sitting → Sitting
raised seat = record seat { share = seat.share + 1 }

-- how many answers were counted for all of them
abbrev pub answers_in : List Sitting → ℕ
answers_in lefts = sum_by (λ (left : Sitting). left.share) lefts

-- how many seats they stand for
abbrev pub seats_in : List Sitting → ℕ
seats_in lefts = sum_by (λ (left : Sitting). left.seats) lefts
