-- Who made the entries of a history.
use Rattle.std.specs.Prelude.{ℕ, ◌≡◌, ◌+◌, ◌-◌, ◌^◌, List, [], ◌∷◌, max, min}
use Rattle.cml_board.specs.declared.entry.Entry.{Entry}
use Rattle.cml_board.specs.declared.entry.Who.{Who}
use Rattle.cml_board.specs.declared.entry.Who.TheVariants.{Seat, Lane, Feed}
use Rattle.cml_board.specs.declared.restored.Makers.{Makers}
use Rattle.cml_board.specs.History.{rings_in}
use Rattle.cml_board.specs.Shown.{Shown}

-- one more than the seat's number, and nothing of a lane or a feed
abbrev pub behind_seat : Who → ℕ
behind_seat (Seat number) = number + 1
behind_seat who = 0

-- the same of a lane
abbrev pub behind_lane : Who → ℕ
behind_lane (Lane number) = number + 1
behind_lane who = 0

-- the same of a feed
abbrev pub behind_feed : Who → ℕ
behind_feed (Feed number) = number + 1
behind_feed who = 0

-- a number in 64 bits: the largest one, if it has more
abbrev pub capped : ℕ → ℕ
capped number = min number (2 ^ 64 - 1)

module _ {M : Type 0} where
  -- one more than the highest number of a seat that made an entry, or 0
  abbrev pub seats_of : List (Entry M) → ℕ
  seats_of [] = 0
  seats_of (entry ∷ before) = max (seats_of before) (behind_seat entry.who)

  -- the same of lanes
  abbrev pub lanes_of : List (Entry M) → ℕ
  lanes_of [] = 0
  lanes_of (entry ∷ before) = max (lanes_of before) (behind_lane entry.who)

  -- the same of feeds
  abbrev pub feeds_of : List (Entry M) → ℕ
  feeds_of [] = 0
  feeds_of (entry ∷ before) = max (feeds_of before) (behind_feed entry.who)

  -- these are the makers of this history
  pub record AreMakers (history : List (Entry M)) (makers : Makers) : Type 0 where
    pub seats : makers.seats ≡ capped (seats_of history)
    pub lanes : makers.lanes ≡ capped (lanes_of history)
    pub feeds : makers.feeds ≡ capped (feeds_of history)
    pub rings : makers.rings ≡ rings_in history

-- a board and who made its entries
pub record RestoredShown (M : Type 0) : Type 0 where
  pub board : Shown M
  pub makers : Makers
