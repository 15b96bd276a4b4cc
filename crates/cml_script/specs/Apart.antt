-- What goes by the lanes and feeds of a thread.
use Rattle.std.specs.Prelude.{ℕ, ◌≡◌, ◌&&◌, Bool, true, false, List, [], ◌∷◌, length, take, slice_get, Option, Some, None, ⊤}
use Rattle.std.specs.Option.{option_and_then}
use Rattle.cml_board.specs.{Name}
use Rattle.cml_grammar.specs.{Action, SourceLine, Lines, names_of, action_of}
use Rattle.cml_grammar.specs.declared.forms.Action.TheVariants as action
use Rattle.cml_report.specs.declared.route.Route.{Route}
use Rattle.cml_report.specs.declared.route.Route.TheVariants as route
use Rattle.cml_report.specs.Counting.{how_many}
use Rattle.cml_report.specs.Schedule.{number_of, is_seated, is_apart, route_of_line}

-- a message sent by the lane to this object, which has room for this many, or a poll of the feed of this number
pub data Apart : Type 0 where
  by_lane : Name → ℕ → List ℕ → Apart
  by_feed : ℕ → Apart

abbrev pub is_by_lane : Apart → Bool
is_by_lane (by_lane target capacity message) = true
is_by_lane (by_feed feed) = false

-- a step of the thread with this seat that goes by one of its lanes or feeds
abbrev pub goes_apart : Lines → ℕ → SourceLine → Bool
goes_apart script seat line = is_seated script seat line && is_apart script line

-- how many such steps of that thread are before the i-th step of the script
abbrev pub earlier_apart : Lines → ℕ → ℕ → ℕ
earlier_apart script seat i = how_many (goes_apart script seat) (take i script.steps)

-- what an action does that goes this way
abbrev pub act_of : Lines → Route → Action → Option Apart
act_of script (route.Lane capacity) (action.Give give at message) = Some (by_lane (record { 0 = number_of script at }) capacity message)
act_of script (route.Feed feed) _ = Some (by_feed feed)
act_of script _ _ = None

abbrev pub act_of_line : Lines → SourceLine → Option Apart
act_of_line script line = option_and_then (act_of script (route_of_line script line)) (action_of (names_of script) line.words)

-- what the thread's next such step does, after this many of them
pub record IsNextApart (script : Lines) (seat before : ℕ) (done : Apart) : Type 0 where
  pub step : ℕ
  pub line : SourceLine
  pub found : slice_get script.steps step ≡ Some line
  pub apart : goes_apart script seat line ≡ true
  pub next : earlier_apart script seat step ≡ before
  pub does : act_of_line script line ≡ Some done

-- each of these is, from the first on: the newest comes first
abbrev pub AreNextApart : Lines → ℕ → List Apart → Type 0
AreNextApart script seat [] = ⊤
AreNextApart script seat (done ∷ before) = IsNextApart script seat (length before) done × AreNextApart script seat before
