-- All that always holds of a board between two calls.
use Rattle.std.specs.Prelude.{ℕ}
use Rattle.cml_board.specs.History.{Lawful}
use Rattle.cml_board.specs.Shown.{Shown, KeepsMailboxes, KeepsPorts, KeepsClosed, KeepsVariables, KeepsLogs}
use Rattle.cml_board.specs.Since.{KeepsSince}

module _ {M : Type 0} where
  pub record IsSound (chunk : ℕ) (board : Shown M) : Type 0 where
    -- all accepted calls are a lawful history of one thread: those that were cut away, followed by the journal
    pub lawful : Lawful board.history
    -- what was received from a mailbox, followed by what really waits in it, is what was sent to it
    pub mailboxes : KeepsMailboxes board
    -- what was received from a port, followed by what is really kept for it, is what was multicast since its start;
    -- no chunk is freed that an open port's place is in, nor any after it
    pub ports : KeepsPorts board
    -- what a closed port received are the first messages that were multicast since its start
    pub closed : KeepsClosed board
    -- what a variable really holds is what it was made with, or was last put or swapped into it, unless it was taken
    pub variables : KeepsVariables board
    -- what the log of a mailbox or a channel really holds, from which place on, and which cursors are open in it
    pub logs : KeepsLogs chunk board
    -- the same for the entries since the last cut: what was received since, followed by what waits, is what waited at the
    -- cut, followed by what was sent since
    pub since : KeepsSince chunk board
