-- What a board shows of itself, and what always holds of it.
use Rattle.std.specs.Prelude.{ℕ, ◌≡◌, ◌+◌, ◌≤◌, min, true, false, List, ◌++◌, drop, Some}
use Rattle.cml_log.specs.Log.{Log}
use Rattle.cml_log.specs.{next_of, place_at, owed_items}
use Rattle.cml_calls.specs.declared.kind.Kind.TheVariants.{Mailbox}
use Rattle.cml_board.specs.declared.entry.Entry.{Entry}
use Rattle.cml_board.specs.declared.object.Object.{Object}
use Rattle.cml_board.specs.Origins.{port}
use Rattle.cml_calls.specs.{is_source, is_variable}
use Rattle.cml_board.specs.Held.{held}
use Rattle.cml_board.specs.History.{entries_in, kind_of, origin_of, is_open, sent, got, due, place}
use Rattle.cml_board.specs.Kept.{reads, kept_from}
use Rattle.cml_board.specs.Counts.{is_a}
use Rattle.cml_board.specs.Holdings.{log_at, cursor_at, held_at}

-- all entries since the board was made, the newest first; which of them were cut away, so that the others are the journal;
-- the journal's limit; by name what each object really holds; and how many more entries the journal has memory for
pub record Shown (M : Type 0) : Type 0 where
  pub history : List (Entry M)
  pub past : List (Entry M)
  pub limit : ℕ
  pub objects : List (Object M (Log M))
  pub reserved : ℕ

module _ {M : Type 0} where
  -- how many entries there may be since the board was made: as many more than were cut away as the limit says, and never
  -- more than a number tells
  abbrev pub full_at : Shown M → ℕ
  full_at board = min (entries_in board.past + board.limit) 18446744073709551615

  -- the log that an object reads, with its cursor there: no chunk is freed that the cursor's place is in, nor any
  -- after it
  pub record Reads (board : Shown M) (object source : ℕ) : Type 0 where
    pub key : ℕ
    pub log : Log M
    pub reads : cursor_at board.objects object ≡ Some (source, key)
    pub found : log_at board.objects source ≡ Some log
    pub kept : log.first ≤ place board.history object
    pub within : place board.history object ≤ next_of log

  -- for every mailbox, what was received followed by what really waits in it is what was sent to it, in order, each once
  abbrev pub KeepsMailboxes : Shown M → Type 0
  KeepsMailboxes board = (name : ℕ) → kind_of board.history name ≡ Some Mailbox
      → (own : Reads board name name) × (got board.history name ++ owed_items own.log own.key ≡ sent board.history name)

  -- for every open port, what was received followed by what its channel really keeps from its place on is what was
  -- multicast since its start
  abbrev pub KeepsPorts : Shown M → Type 0
  KeepsPorts board = (name channel start : ℕ) → origin_of board.history name ≡ Some (port channel start) → is_open board.history name ≡ true
      → (own : Reads board name channel) × (got board.history name ++ owed_items own.log own.key ≡ due board.history name)

  -- for every closed port, what was received is how that began
  abbrev pub KeepsClosed : Shown M → Type 0
  KeepsClosed board = (name channel start : ℕ) → origin_of board.history name ≡ Some (port channel start)
      → is_open board.history name ≡ false
      → (rest : List M) × (got board.history name ++ rest ≡ due board.history name)

  -- the log of a mailbox or a channel: it holds just what was sent from its first kept place on, and that is the one that
  -- the history tells; its open cursors are one for each object that reads it, at the object's place, and no others
  pub record HoldsLog (chunk : ℕ) (board : Shown M) (source : ℕ) : Type 0 where
    pub log : Log M
    pub found : log_at board.objects source ≡ Some log
    pub first : log.first ≡ kept_from chunk board.history source
    pub kept : log.kept ≡ drop log.first (sent board.history source)
    pub readers : (reader : ℕ) → reads board.history source reader ≡ true
        → (key : ℕ) × (cursor_at board.objects reader ≡ Some (source, key)) × (place_at log key ≡ Some (place board.history reader))
    pub cursors : (key at : ℕ) → place_at log key ≡ Some at
        → (reader : ℕ) × (reads board.history source reader ≡ true) × (cursor_at board.objects reader ≡ Some (source, key))
    pub apart : (one two key : ℕ) → cursor_at board.objects one ≡ Some (source, key)
        → cursor_at board.objects two ≡ Some (source, key) → one ≡ two

  -- every mailbox and every channel has such a log
  abbrev pub KeepsLogs : ℕ → Shown M → Type 0
  KeepsLogs chunk board = (name : ℕ) → is_a is_source board.history name ≡ true → HoldsLog chunk board name

  -- every variable really holds what the history tells
  abbrev pub KeepsVariables : Shown M → Type 0
  KeepsVariables board = (name : ℕ) → is_a is_variable board.history name ≡ true
      → held_at board.objects name ≡ Some (held board.history name)
