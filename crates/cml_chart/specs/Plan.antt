-- What a script says of its reports.
use Rattle.std.specs.Prelude.{ℕ, ◌≡◌, Bool, true, false, not, ◌&&◌, ◌||◌, List, [], ◌∷◌, ◌++◌, map, filter_map, slice_get}
use Rattle.std.specs.Prelude.{Option, Some, None, is_some, codes, if◌then◌else◌}
use Rattle.std.specs.List.{join_with_byte}
use Rattle.std.specs.Option.{option_map, option_map_or, option_and_then}
use Rattle.std.specs.Str.{bytes_eq}
use Rattle.cml_grammar.specs.{Action, verb_of, Named, SourceLine, Lines, names_of as given_by, action_of, seat_of_step, capacity_of}
use Rattle.cml_grammar.specs.declared.forms.Action.TheVariants.{Give, Ask}
use Rattle.cml_grammar.specs.declared.names.Named.TheVariants as called
use Rattle.cml_chart.specs.Lines.{Words, makes_port}
use Rattle.cml_chart.specs.Shown.{texts}
use Rattle.cml_chart.specs.declared.plan.Made.{Made as ReadMade}
use Rattle.cml_chart.specs.declared.plan.Plan.{Plan}
use Rattle.cml_chart.specs.Columns.{names_of, each_once}
use Rattle.cml_chart.specs.Threads.{Standing, shown_threads}

-- what a line makes, by its kind and its name
abbrev pub Made : Type 0
Made = List ℕ × List ℕ

abbrev pub made_at : List ℕ → Words → ℕ → Option Made
made_at kind words at = option_map (λ name. (kind, name)) (slice_get words at)

-- the name that a declaration gives follows its kind, but a port's name follows its channel, and a feed's its thread
abbrev pub declared_in : Words → Option Made
declared_in [] = None
declared_in (kind ∷ rest) = made_at kind rest (if bytes_eq kind (codes "port") || bytes_eq kind (codes "feed") then 1 else 0)

-- the port that a step makes: its name follows the channel or port that it is made of
abbrev pub port_in : Words → Option Made
port_in (thread ∷ word ∷ rest) = option_and_then (λ step. if makes_port step then made_at (codes "port") rest 1 else None) (verb_of word)
port_in _ = None

abbrev pub is_kind : List ℕ → Made → Bool
is_kind kind made = bytes_eq made.0 kind

abbrev pub name_if : Bool → Made → Option (List ℕ)
name_if test made = if test then Some made.1 else None

-- the names of the feeds, and all objects, in the order of a report's second part
abbrev pub feed_in : SourceLine → Option (List ℕ)
feed_in line = option_and_then (λ made. name_if (is_kind (codes "feed") made) made) (declared_in line.words)

abbrev pub object_in : SourceLine → Option Made
object_in line = option_and_then (λ made. if is_kind (codes "thread") made then None else Some made) (declared_in line.words)

abbrev pub feeds_in : Lines → Words
feeds_in script = filter_map feed_in script.declarations

abbrev pub objects_in : Lines → List Made
objects_in script = filter_map object_in script.declarations ++ filter_map (λ line. port_in line.words) script.steps

-- the objects that lanes lead to: a lane line names its thread, its object and its room after its first word
abbrev pub target_in : SourceLine → Option (List ℕ)
target_in line = slice_get line.words 2

abbrev pub targets_in : Lines → Words
targets_in script = each_once [] (map target_in script.lanes)

-- a lane leads from this seat to the object whose name has this position
abbrev pub has_lane : Lines → Option ℕ → ℕ → Bool
has_lane script seat at = is_some (option_and_then (λ s. capacity_of (given_by script) script.lanes (s, at)) seat)

abbrev pub is_feed : Named → Bool
is_feed (called.Feed seat) = true
is_feed _ = false

-- A step that has no row of its thread: a message that goes by a lane of that thread, and a poll of a feed, the only call on a feed.
abbrev pub goes_apart : Lines → Option ℕ → Action → Bool
goes_apart script seat (Give call at message) = has_lane script seat at
goes_apart script seat (Ask call at) = option_map_or (λ g. is_feed g.1) (slice_get (given_by script) at) false

abbrev pub is_apart : Lines → SourceLine → Bool
is_apart script line =
    option_map_or (goes_apart script (seat_of_step (given_by script) line.words)) (action_of (given_by script) line.words) false

abbrev pub begins : List ℕ → Words → Bool
begins name [] = false
begins name (word ∷ rest) = bytes_eq name word

-- the lines of a thread's steps that have rows of it
abbrev pub own_in : Lines → List ℕ → SourceLine → Option (List ℕ)
own_in script name line = if begins name line.words && not (is_apart script line) then Some (join_with_byte 32 line.words) else None

abbrev pub own_steps : Lines → List ℕ → Words
own_steps script name = filter_map (own_in script name) script.steps

-- the threads, before any step
abbrev pub thread_in : Lines → SourceLine → Option Standing
thread_in script line =
    option_and_then (λ made. option_map (λ name. record { name = name; steps = own_steps script name; performed = 0 })
    (name_if (is_kind (codes "thread") made) made))
    (declared_in line.words)

abbrev pub threads_in : Lines → List Standing
threads_in script = filter_map (thread_in script) script.declarations

-- what was read of a script
abbrev pub shown_made : ReadMade → Made
shown_made m = (m.kind.now, m.name.now)

pub record IsPlan (script : Lines) (plan : Plan) : Type 0 where
  pub threads : shown_threads plan.threads.items ≡ threads_in script
  pub feeds : texts plan.feeds.items ≡ feeds_in script
  pub targets : names_of plan.targets.keys ≡ targets_in script
  pub objects : map shown_made plan.objects.items ≡ objects_in script
