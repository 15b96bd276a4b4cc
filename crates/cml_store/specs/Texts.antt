-- The texts of a journal that a file may have, and their entries.
use Rattle.std.specs.Prelude.{◌≡◌, ℕ, ◌==◌, ◌&&◌, Bool, true, false, List, [], ◌++◌, length, take, reverse, Option, Some, None, Ok, Err}
use Rattle.cml_board.specs.{Entry, Lawful}
use Rattle.cml_journal.specs.{Read, State, Unended, waiting_at, unended, reading}
use Rattle.cml_journal.specs.declared.fault.Unended.TheVariants.{Open, Torn, NoJournal}
use Rattle.cml_store.specs.Recovery.{printed, recovered}

-- neither half a line nor a header alone is behind the last line that is kept
abbrev pub is_whole_at : State → Bool
is_whole_at state = (length state.line == 0) && (state.header == 0)

abbrev pub is_whole_read : {M : Type 0} → Read M → Bool
is_whole_read (Ok found) = is_whole_at found.0
is_whole_read (Err what) = false

-- how a text ends doesn't say that it is no journal
abbrev pub is_journal : Option Unended → Bool
is_journal None = true
is_journal (Some (Open lines)) = true
is_journal (Some (Torn lines)) = true
is_journal (Some NoJournal) = false

abbrev pub is_front_read : {M : Type 0} → ℕ → Read M → Bool
is_front_read version (Ok found) = is_journal (unended version found.0)
is_front_read version (Err what) = false

abbrev pub entries_of : {M : Type 0} → Read M → List (Entry M)
entries_of (Ok found) = found.1
entries_of (Err what) = []

abbrev pub IsFrontOf : {X : Type 0} → List X → List X → Type 0
IsFrontOf {X} front whole = (rest : List X) × (whole ≡ front ++ rest)

module _ {M : Type 0} (version : ℕ) (meaning : List ℕ → Option M) where
  -- a text that is read without a fault, and has no torn piece at its end
  abbrev pub is_whole_text : List ℕ → Bool
  is_whole_text bytes = is_whole_read (reading version meaning (waiting_at 0) bytes)

  -- a text that is read without a fault, and may become a journal
  abbrev pub is_front_text : List ℕ → Bool
  is_front_text bytes = is_front_read version (reading version meaning (waiting_at 0) bytes)

  -- the entries that are read of a text
  abbrev pub entries_in : List ℕ → List (Entry M)
  entries_in bytes = entries_of (reading version meaning (waiting_at 0) bytes)

  -- The entries that recovery gives of a file begin with those before a mark, and begin those of the text. They are lawful if those
  -- of the text are. Recovery doesn't refuse the file.
  pub record KeepsEntries (mark : ℕ) (text c : List ℕ) : Type 0 where
    pub sure : IsFrontOf (entries_in (take mark text)) (entries_in (recovered is_whole_text c))
    pub front : IsFrontOf (entries_in (recovered is_whole_text c)) (entries_in text)
    pub lawful : Lawful (reverse (entries_in text)) → Lawful (reverse (entries_in (recovered is_whole_text c)))
    pub accepted : is_front_text (printed c) ≡ true
