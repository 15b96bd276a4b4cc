-- What a board shows since its journal was last cut, in the words of its history. The base says what was cut away.
use Rattle.std.specs.Prelude.{ℕ, ◌≡◌, true, false, List, ◌++◌, Some}
use Rattle.cml_log.specs.Log.{Log}
use Rattle.cml_log.specs.{place_at, owed_items}
use Rattle.cml_calls.specs.declared.kind.Kind.TheVariants.{Mailbox}
use Rattle.cml_board.specs.declared.entry.Entry.{Entry}
use Rattle.cml_board.specs.Origins.{port}
use Rattle.cml_calls.specs.{is_source}
use Rattle.cml_board.specs.History.{kind_of, origin_of, is_open, sent, got, owed}
use Rattle.cml_board.specs.Counts.{is_a}
use Rattle.cml_board.specs.Base.{base_of, due_since, reads_since, place_since, kept_since, messages_since}
use Rattle.cml_board.specs.Holdings.{log_at, cursor_at}
use Rattle.cml_board.specs.Shown.{Shown, Reads}

module _ {M : Type 0} where
  -- for every mailbox, what was received since the cut, followed by what really waits in it, is what waited at the cut,
  -- followed by what was sent since
  abbrev pub MailboxesSince : Shown M → List (Entry M) → Type 0
  MailboxesSince board since = (name : ℕ) → kind_of board.history name ≡ Some Mailbox
      → (own : Reads board name name) × (got since name ++ owed_items own.log own.key ≡ owed board.past name ++ sent since name)

  -- for every open port, what was received since, followed by what its channel really keeps from its place on, is what is due
  -- to it since: of its channel's messages those from where it stood at the cut, or from its start, on
  abbrev pub PortsSince : ℕ → Shown M → List (Entry M) → Type 0
  PortsSince chunk board since = (name channel start : ℕ) → origin_of board.history name ≡ Some (port channel start)
      → is_open board.history name ≡ true
      → (own : Reads board name channel) × (got since name ++ owed_items own.log own.key ≡ due_since (base_of chunk board.past) since name)

  -- for every closed port, what was received since is how that began
  abbrev pub ClosedSince : ℕ → Shown M → List (Entry M) → Type 0
  ClosedSince chunk board since = (name channel start : ℕ) → origin_of board.history name ≡ Some (port channel start)
      → is_open board.history name ≡ false
      → (rest : List M) × (got since name ++ rest ≡ due_since (base_of chunk board.past) since name)

  -- the log of a mailbox or a channel holds what was kept at the cut and what was sent since, except what was freed; and it has
  -- a cursor for each object that reads it, at the object's place
  pub record LogSince (chunk : ℕ) (board : Shown M) (since : List (Entry M)) (source : ℕ) : Type 0 where
    pub log : Log M
    pub found : log_at board.objects source ≡ Some log
    pub first : log.first ≡ kept_since chunk (base_of chunk board.past) since source
    pub kept : log.kept ≡ messages_since chunk (base_of chunk board.past) since source
    pub readers : (reader : ℕ) → reads_since (base_of chunk board.past) since source reader ≡ true
        → (key : ℕ) × (cursor_at board.objects reader ≡ Some (source, key))
        × (place_at log key ≡ Some (place_since (base_of chunk board.past) since reader))

  -- all of this holds of the entries since the last cut
  pub record Since (chunk : ℕ) (board : Shown M) (since : List (Entry M)) : Type 0 where
    pub mailboxes : MailboxesSince board since
    pub ports : PortsSince chunk board since
    pub closed : ClosedSince chunk board since
    pub logs : (name : ℕ) → is_a is_source board.history name ≡ true → LogSince chunk board since name

  abbrev pub KeepsSince : ℕ → Shown M → Type 0
  KeepsSince chunk board = (since : List (Entry M)) → board.history ≡ since ++ board.past → Since chunk board since
