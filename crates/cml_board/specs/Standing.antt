-- What a look at a board finds.
use Rattle.std.specs.Prelude.{ℕ, ◌≡◌, ◌≤◌, true, length, slice_get, Some}
use Rattle.cml_log.specs.Log.{Log}
use Rattle.cml_log.specs.{next_of, place_of, owed_items}
use Rattle.cml_board.specs.declared.object.Object.{Object}
use Rattle.cml_calls.specs.{is_receiver}
use Rattle.cml_board.specs.History.{sent, owed, place, is_open}
use Rattle.cml_board.specs.Kept.{kept_from}
use Rattle.cml_board.specs.Counts.{is_a}
use Rattle.cml_board.specs.Facts.{facts_of}
use Rattle.cml_board.specs.Holdings.{log_in, cursor_in, cursor_at, HasCursor}
use Rattle.cml_board.specs.Shown.{Shown}
use Rattle.cml_board.specs.Keeps.{Agrees}

module _ {M : Type 0} where
  -- a mailbox or an open port, and the cursor by which it reads
  pub record ReadsAt (board : Shown M) (name source key : ℕ) : Type 0 where
    pub reads : cursor_at board.objects name ≡ Some (source, key)
    pub receiver : is_a is_receiver board.history name ≡ true
    pub opened : is_open board.history name ≡ true
    pub cursor : HasCursor board.objects source key
    pub at : place_of cursor.stands.log key ≡ place board.history name
    pub owes : owed_items cursor.stands.log key ≡ owed board.history name

  -- an object, and what it shows of the history
  pub record Stands (chunk : ℕ) (board : Shown M) (name : ℕ) (object : Object M (Log M)) : Type 0 where
    pub found : slice_get board.objects name ≡ Some object
    pub agrees : Agrees (facts_of board.history name) object
    pub next : (log : Log M) → log_in object ≡ Some log → next_of log ≡ length (sent board.history name)
    pub first : (log : Log M) → log_in object ≡ Some log → log.first ≡ kept_from chunk board.history name
    pub low : (log : Log M) → log_in object ≡ Some log → log.first ≤ next_of log
    pub reads : (source key : ℕ) → cursor_in name object ≡ Some (source, key) → ReadsAt board name source key
