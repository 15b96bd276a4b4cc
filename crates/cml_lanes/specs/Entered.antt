-- What lanes and feeds add to a history: an entry for each message, in order.
use Rattle.std.specs.Prelude.{◌≡◌, ℕ, ◌+◌, ◌≤◌, List, [], ◌∷◌, length}
use Rattle.cml_board.specs.{Entry}
use Rattle.cml_board.specs.Shown.{Shown}

module _ {M : Type 0} where
  abbrev pub with_entries : (M → Entry M) → List M → List (Entry M) → List (Entry M)
  with_entries entry [] history = history
  with_entries entry (message ∷ messages) history = with_entries entry messages (entry message ∷ history)

  -- these messages, as many as are said, were entered; nothing else of the board changed, but that each entry may have used reserved memory
  pub record Enters (entry : M → Entry M) (messages : List M) (count : ℕ) (old new : Shown M) : Type 0 where
    pub as_many : length messages ≡ count
    pub history : new.history ≡ with_entries entry messages old.history
    pub past : new.past ≡ old.past
    pub limit : new.limit ≡ old.limit
    pub reserved : old.reserved ≤ new.reserved + count
