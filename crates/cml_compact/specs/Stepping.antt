-- How the calls of a compaction change the board that it makes.
use Rattle.std.specs.Prelude.{ℕ, ◌≡◌, ◌≢◌, ◌+◌, ◌-◌, ◌<◌, ◌≤◌, List, ◌++◌, length, take, drop, Option, Some, None}
use Rattle.cml_board.specs.{Call, Refusal, Who, Reply, Origin, mailbox, channel, port, ivar, mvar, Lawful, answer, no_entries, entries_in}
use Rattle.cml_board.specs.{made, facts_of}
use Rattle.cml_board.specs.declared.call.Call.TheVariants.{NewMailbox, NewChannel, NewPort, NewIVar, NewMVar}
use Rattle.cml_board.specs.History.{with_entry}
use Rattle.cml_board.specs.Facts.{Facts}
use Rattle.cml_board.specs.Shown.{Shown}
use Rattle.cml_compact.specs.Stages.{weight, weights}
use Rattle.cml_compact.specs.Compacting.{Stops}

module _ {M : Type 0} where
  -- the call that makes such an object; a port begins at its channel's end
  abbrev pub maker_of : Origin → Call M
  maker_of mailbox = NewMailbox
  maker_of channel = NewChannel
  maker_of (port source start) = NewPort (record { 0 = source })
  maker_of ivar = NewIVar
  maker_of mvar = NewMVar

  abbrev pub maker_in : Option Origin → Call M
  maker_in (Some origin) = maker_of origin
  maker_in None = NewMVar

  -- the call was answered, and the board has its entry more
  pub record Tells (old new : Shown M) (who : Who) (call : Call M) : Type 0 where
    pub reply : Reply M
    pub answered : answer old.history call ≡ Some reply
    pub history : new.history ≡ with_entry old.history (record { who = who; call = call; reply = reply })
    pub past : new.past ≡ old.past
    pub limit : new.limit ≡ old.limit
    pub lawful : Lawful new.history

  -- a new board with this limit, on which just the first n objects were made, with these facts
  pub record Reaches (most : ℕ) (board : Shown M) (n : ℕ) (facts : ℕ → Facts M) : Type 0 where
    pub begins : board.past ≡ no_entries
    pub limit : board.limit ≡ most
    pub lawful : Lawful board.history
    pub count : length (made board.history) ≡ n
    pub entries : entries_in board.history ≡ weights (facts_of board.history) n
    pub each : (name : ℕ) → name < n → facts_of board.history name ≡ facts name

  -- one on which all objects were made: the first n have the new facts, and the others still the old ones
  pub record Halfway (most : ℕ) (board : Shown M) (all n : ℕ) (from to : ℕ → Facts M) : Type 0 where
    pub begins : board.past ≡ no_entries
    pub limit : board.limit ≡ most
    pub lawful : Lawful board.history
    pub count : length (made board.history) ≡ all
    pub entries : entries_in board.history ≡ weights (facts_of board.history) all
    pub done : (name : ℕ) → name < n → facts_of board.history name ≡ to name
    pub rest : (name : ℕ) → n ≤ name → name < all → facts_of board.history name ≡ from name

  -- one object has new facts, and each other stays as it was
  pub record Changes (old new : Shown M) (name : ℕ) (facts : Facts M) : Type 0 where
    pub past : new.past ≡ old.past
    pub limit : new.limit ≡ old.limit
    pub lawful : Lawful new.history
    pub count : length (made new.history) ≡ length (made old.history)
    pub entries : entries_in new.history + weight (facts_of old.history name) ≡ entries_in old.history + weight facts
    pub here : facts_of new.history name ≡ facts
    pub others : (other : ℕ) → other ≢ name → facts_of new.history other ≡ facts_of old.history other

  -- more was sent on a channel, until there were so many: messages that lie in this list from a place on
  abbrev pub sent_until : Facts M → ℕ → ℕ → List M → Facts M
  sent_until facts front to messages =
      record facts { sent = facts.sent ++ take (to - length facts.sent) (drop (front + length facts.sent) messages) }

  -- why it stops before an object with these facts has those: the limit is less than the entries would then be, or for want of memory
  abbrev pub StopsBefore : Shown M → Facts M → Facts M → Refusal → Type 0
  StopsBefore board now then refusal = Stops board.limit (entries_in board.history + (weight then - weight now)) refusal
