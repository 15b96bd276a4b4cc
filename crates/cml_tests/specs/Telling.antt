-- What a teller made.
use Rattle.std.specs.Prelude.{ℕ, ◌≡◌, Bool, false, List, [], ◌++◌, reverse, Option, Some, None}
use Rattle.cml_board.specs.{Name, Refusal}
use Rattle.cml_script.specs.{how_many, History, by_lane, by_feed, Made, is_of_feed}
use Rattle.cml_script.specs.Apart.{Apart}

-- a message that was sent by a lane with so much room, or a poll of the feed of this number
abbrev pub went_so : Option (List ℕ) → Name → ℕ → Apart
went_so (Some message) target capacity = by_lane target capacity message
went_so None target feed = by_feed feed

-- what a seat made: what it was answered, newest first, and the capacities that it opened its feeds with and what went by its
-- lanes and feeds, both kept oldest first
abbrev pub made_by : ℕ → History → List ℕ → List Apart → Bool → Option Refusal → Made
made_by seat entries opened went sending refused =
    record { seat = seat; entries = entries; opened = reverse opened; apart = reverse went; is_sending = sending; refused = refused }

-- how many feeds these entries open
abbrev pub feeds_told : History → ℕ
feeds_told entries = how_many is_of_feed entries

-- the newest entries of a history are these
abbrev pub EndsWith : History → History → Type 0
EndsWith newest history = (before : History) × (history ≡ newest ++ before)

-- a seat that made nothing
abbrev pub unmade : ℕ → Made
unmade seat = record { seat = seat; entries = []; opened = []; apart = []; is_sending = false; refused = None }
