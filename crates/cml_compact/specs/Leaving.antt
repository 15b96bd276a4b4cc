-- What a history leaves to later calls.
use Rattle.std.specs.Prelude.{ℕ, ◌≡◌, ◌↔◌, true, List, ◌++◌}
use Rattle.cml_calls.specs.{is_receiver, is_variable}
use Rattle.cml_board.specs.{Entry, Lawful, kind_of, is_open, owed, held, is_a, channel_of}

module _ {M : Type 0} where
  -- both made objects of the same kinds under the same names
  abbrev pub SameKinds : List (Entry M) → List (Entry M) → Type 0
  SameKinds old new = (name : ℕ) → kind_of new name ≡ kind_of old name

  -- each port is one of the same channel
  abbrev pub SameChannels : List (Entry M) → List (Entry M) → Type 0
  SameChannels old new = (name : ℕ) → channel_of new name ≡ channel_of old name

  -- the same ports are open
  abbrev pub SameOpen : List (Entry M) → List (Entry M) → Type 0
  SameOpen old new = (name : ℕ) → is_open new name ≡ is_open old name

  -- each mailbox and each open port is owed the same messages, in the same order
  abbrev pub SameOwed : List (Entry M) → List (Entry M) → Type 0
  SameOwed old new = (name : ℕ) → is_a is_receiver old name ≡ true → is_open old name ≡ true → owed new name ≡ owed old name

  -- each variable holds the same
  abbrev pub SameHeld : List (Entry M) → List (Entry M) → Type 0
  SameHeld old new = (name : ℕ) → is_a is_variable old name ≡ true → held new name ≡ held old name

  -- both leave the same to later calls. How many messages were sent and received, and where a port starts, may differ
  pub record LeavesTheSame (old new : List (Entry M)) : Type 0 where
    pub kinds : SameKinds old new
    pub channels : SameChannels old new
    pub opened : SameOpen old new
    pub owed : SameOwed old new
    pub held : SameHeld old new

  -- whatever may follow the one history may follow the other, and nothing else
  abbrev pub FollowedAlike : List (Entry M) → List (Entry M) → Type 0
  FollowedAlike old new = (since : List (Entry M)) → Lawful (since ++ old) ↔ Lawful (since ++ new)
