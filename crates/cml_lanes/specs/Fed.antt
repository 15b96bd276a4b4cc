-- What feeds have taken out of a board, as its journal tells. A history is a list of entries, the newest first.
use Rattle.std.specs.Prelude.{ℕ, ◌==◌, Bool, false, List, [], ◌∷◌, ◌++◌, if◌then◌else◌}
use Rattle.cml_board.specs.{Name, Who, Entry, message_in}
use Rattle.cml_board.specs.declared.call.Call.TheVariants.{Recv}
use Rattle.cml_board.specs.declared.entry.Who.TheVariants.{Feed}
use Rattle.cml_board.specs.declared.entry.Reply.TheVariants.{Got}
use Rattle.cml_lanes.specs.Entered.{with_entries}

-- the feed of this number made the call
abbrev pub is_feed : Who → ℕ → Bool
is_feed (Feed feed) number = feed == number
is_feed who number = false

module _ {M : Type 0} where
  -- all messages that a feed's entries were given, in order
  abbrev pub fed : List (Entry M) → ℕ → List M
  fed [] number = []
  fed (entry ∷ before) number = fed before number ++ (if is_feed entry.who number then message_in entry.reply else [])

  -- the entry of a message that a feed took from its port
  abbrev pub feed_entry : ℕ → Name → M → Entry M
  feed_entry number port message = record { who = Feed number; call = Recv port; reply = Got message }

  -- one such entry more for each message, in order
  abbrev pub with_feed : ℕ → Name → List M → List (Entry M) → List (Entry M)
  with_feed number port = with_entries (feed_entry number port)
