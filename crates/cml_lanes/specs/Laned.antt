-- What lanes have put into a journal. A history is a list of entries, the newest first.
use Rattle.std.specs.Prelude.{ℕ, ◌==◌, Bool, false, List, [], ◌∷◌, ◌++◌, if◌then◌else◌}
use Rattle.cml_board.specs.{Name, Call, Who, Entry}
use Rattle.cml_board.specs.declared.call.Call.TheVariants as call
use Rattle.cml_board.specs.declared.entry.Who.TheVariants.{Lane}
use Rattle.cml_board.specs.declared.entry.Reply.TheVariants.{Done}
use Rattle.cml_lanes.specs.declared.way.Way.{Way}
use Rattle.cml_lanes.specs.Sides.{way_call}
use Rattle.cml_lanes.specs.Entered.{with_entries}

-- the lane of this number made the call
abbrev pub is_lane : Who → ℕ → Bool
is_lane (Lane lane) number = lane == number
is_lane who number = false

module _ {M : Type 0} where
  -- the message that a call sends or casts
  abbrev pub moved_by : Call M → List M
  moved_by (call.Send name message) = message ∷ []
  moved_by (call.Cast name message) = message ∷ []
  moved_by call = []

  -- all messages that a lane's entries have sent or cast, in order
  abbrev pub laned : List (Entry M) → ℕ → List M
  laned [] number = []
  laned (entry ∷ before) number = laned before number ++ (if is_lane entry.who number then moved_by entry.call else [])

  -- the entry of a lane's message
  abbrev pub lane_entry : ℕ → Way → Name → M → Entry M
  lane_entry number way target message = record { who = Lane number; call = way_call way target message; reply = Done }

  -- one such entry more for each message, in order
  abbrev pub with_lane : ℕ → Way → Name → List M → List (Entry M) → List (Entry M)
  with_lane number way target = with_entries (lane_entry number way target)
