-- What is left of a script.
use Rattle.std.specs.Prelude.{ℕ, ◌≡◌, ◌<◌, ◌≤◌, ◌⊎◌, Bool, true, false, List}
use Rattle.cml_board.specs.{Entry, Who, entries_in}
use Rattle.cml_board.specs.declared.entry.Who.TheVariants as who
use Rattle.cml_grammar.specs.{SourceLine, Lines}
use Rattle.cml_report.specs.declared.route.Route.{Route}
use Rattle.cml_report.specs.declared.route.Route.TheVariants as route
use Rattle.cml_report.specs.Counting.{how_many}
use Rattle.cml_report.specs.Schedule.{History, declared_count, route_of_line}
use Rattle.cml_report.specs.Report.{Tallied, unperformed}

abbrev pub is_by_lane : Route → Bool
is_by_lane route.Seat = false
is_by_lane (route.Lane capacity) = true
is_by_lane (route.Feed feed) = false

-- a step that sends by a lane
abbrev pub is_laid : Lines → SourceLine → Bool
is_laid script line = is_by_lane (route_of_line script line)

-- how many such steps there are
abbrev pub laid_count : Lines → ℕ
laid_count script = how_many (is_laid script) script.steps

abbrev pub is_lane : Who → Bool
is_lane (who.Seat seat) = false
is_lane (who.Lane lane) = true
is_lane (who.Feed feed) = false

-- a lane moved a message
abbrev pub is_moved : Entry (List ℕ) → Bool
is_moved entry = is_lane entry.who

-- a declared object was not made, a step was not performed, or a message sent by a lane was not moved
abbrev pub HasLeft : Lines → History → Tallied → Type 0
HasLeft script history tally = (entries_in history < declared_count script)
    ⊎ ((0 < unperformed script history tally) ⊎ (how_many is_moved history < laid_count script))

-- nothing is left: the declared objects were made, each step was performed, and lanes moved as many messages as the steps sent by
-- them
pub record IsAllDone (script : Lines) (history : History) (tally : Tallied) : Type 0 where
  pub made : declared_count script ≤ entries_in history
  pub performed : unperformed script history tally ≡ 0
  pub moved : how_many is_moved history ≡ laid_count script
