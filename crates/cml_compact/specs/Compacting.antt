-- What a compaction makes of a board.
use Rattle.std.specs.Prelude.{ℕ, ◌≡◌, ◌-◌, ◌<◌, ◌≤◌, List, All, length, reverse, ⊤}
use Rattle.cml_board.specs.{Entry, Who, Lawful, Refusal, no_entries, entries_in, made}
use Rattle.cml_board.specs.declared.entry.Who.TheVariants.{Seat}
use Rattle.cml_board.specs.declared.outcome.Refusal.TheVariants.{JournalFull, NoMemory}
use Rattle.cml_board.specs.Shown.{Shown}
use Rattle.cml_compact.specs.Leaving.{LeavesTheSame, FollowedAlike}
use Rattle.cml_compact.specs.Stages.{weights, settled}

-- why it fails: the limit is less than it needs, or for want of memory
abbrev pub Stops : ℕ → ℕ → Refusal → Type 0
Stops limit size JournalFull = limit < size
Stops limit size NoMemory = ⊤
Stops limit size refusal = ⊥

-- the last of this many seats; seat 0 if there is none
abbrev pub last_seat : ℕ → Who
last_seat seats = Seat (seats - 1)

module _ {M : Type 0} where
  -- all entries are of this seat, lane or feed
  abbrev pub AllBy : Who → List (Entry M) → Type 0
  AllBy who history = All (λ entry. entry.who ≡ who) history

  -- how many calls it makes: for each object one that makes it, one for each message that is sent again, one for each that a
  -- port passes over, and one that closes a port or fills a variable
  abbrev pub compact_size : List (Entry M) → ℕ
  compact_size history = weights (settled history) (length (made history))

  -- the new board's journal is lawful from its first entry, leaves what the old board's history leaves, and may be followed by
  -- the same entries
  pub record Compacts (old new : Shown M) : Type 0 where
    pub begins : new.past ≡ no_entries
    pub lawful : Lawful new.history
    pub leaves : LeavesTheSame old.history new.history
    pub later : FollowedAlike old.history new.history
    pub size : entries_in new.history ≡ compact_size old.history

  -- these entries, oldest first, are all those of a board that leaves the same, and all are of this seat, lane or feed
  pub record IsShortJournal (old : Shown M) (who : Who) (entries : List (Entry M)) : Type 0 where
    pub new : Shown M
    pub compacts : Compacts old new
    pub by : AllBy who new.history
    pub all : reverse entries ≡ new.history

  -- these entries, oldest first, are a short journal of some board, made by the last of its seats, and are no more than the limit
  pub record IsSomeShortJournal (limit : ℕ) (entries : List (Entry M)) : Type 0 where
    pub board : Shown M
    pub seats : ℕ
    pub short : IsShortJournal board (last_seat seats) entries
    pub fits : length entries ≤ limit
