-- What is known of a script before any of it is performed.
use Rattle.std.specs.Prelude.{ℕ, ◌≡◌, ◌+◌, ◌<◌, ◌≤◌, Bool, List, true, nat_lt, length, take, map, slice_get, Option}
use Rattle.std.specs.Prelude.{Some, None, if◌then◌else◌, Vec, ⊤}
use Rattle.std.specs.Global.{Global}
use Rattle.std.specs.Option.{option_map_or, option_and_then}
use Rattle.cml_calls.specs.{Kind}
use Rattle.cml_calls.specs.declared.kind.Kind.TheVariants as kind
use Rattle.cml_grammar.specs.{SourceLine, Lines, names_of, makes_of, action_of, Given, kind_named, Named, Makes, Action, gives_name}
use Rattle.cml_grammar.specs.{IsCapacity, is_giving, NamesAreGiven}
use Rattle.cml_grammar.specs.declared.forms.Makes.TheVariants as makes
use Rattle.cml_report.specs.Counting.{how_many}
use Rattle.cml_report.specs.Schedule.{is_feed, number_of, is_seated, is_called, positions_where, route_of_line, given_by}
use Rattle.cml_report.specs.declared.route.Route.{Route}
use Rattle.cml_report.specs.declared.route.Route.TheVariants as route

-- the kind of object that a declaration makes: a feed's is its port
abbrev pub kind_made : Makes → Option Kind
kind_made makes.Thread = None
kind_made makes.Mailbox = Some kind.Mailbox
kind_made makes.Channel = Some kind.Channel
kind_made (makes.Port channel) = Some kind.Port
kind_made makes.IVar = Some kind.IVar
kind_made makes.MVar = Some kind.MVar
kind_made (makes.MVarInit message) = Some kind.MVar
kind_made (makes.Feed feed) = Some kind.Port

abbrev pub kind_declared : Lines → SourceLine → Option Kind
kind_declared script line = option_and_then kind_made (makes_of (names_of script) line.words)

-- the name at this position is an object's of this kind
abbrev pub IsObjectAt : List Given → ℕ → Kind → Type 0
IsObjectAt names at k = (word : List ℕ) × (n : Named) × (slice_get names at ≡ Some (word, n)) × (kind_named n ≡ Some k)

abbrev pub IsObject : List Given → ℕ → Type 0
IsObject names at = (k : Kind) × IsObjectAt names at k

-- each object's name that a declaration gives is that of such an object
abbrev pub NamesObjects : Lines → Type 0
NamesObjects script = (at : ℕ) (k : Kind) → at < length script.declarations → IsObjectAt (names_of script) at k
    → (line : SourceLine) × (slice_get script.declarations at ≡ Some line) × (kind_declared script line ≡ Some k)

-- each step is a thread's, whose seat is 1 to 64
abbrev pub HasSeats : Lines → Type 0
HasSeats script = (i : ℕ) (line : SourceLine) (seat : ℕ) → slice_get script.steps i ≡ Some line
    → is_seated script seat line ≡ true → (1 ≤ seat) × (seat ≤ 64)

-- how the i-th step goes
abbrev pub route_at : Lines → ℕ → Route
route_at script i = option_map_or (route_of_line script) (slice_get script.steps i) route.Seat

-- a lane has room for 1 to 1,024 messages
abbrev pub HasLaneRoom : Route → Type 0
HasLaneRoom (route.Lane capacity) = IsCapacity capacity
HasLaneRoom other = ⊤

-- just the steps that ask for a port give a name
abbrev pub AsksForPorts : Lines → Type 0
AsksForPorts script = (i : ℕ) (line : SourceLine) (asked : Action) → slice_get script.steps i ≡ Some line
    → action_of (names_of script) line.words ≡ Some asked → gives_name asked ≡ is_giving line

-- what is so of each script without fault
pub record IsKnown (script : Lines) : Type 0 where
  pub named : NamesObjects script
  pub seats : HasSeats script
  pub given : NamesAreGiven (names_of script) script.declarations script.steps
  pub asks : AsksForPorts script

-- by name, how many objects are declared before it
pub record AreNumbers (script : Lines) (numbers : List ℕ) : Type 0 where
  pub all : length numbers ≡ length script.declarations
  pub each : (at : ℕ) → at < length numbers → slice_get numbers at ≡ Some (number_of script at)

-- by name, how many feeds are declared before it
pub record AreFeedNumbers (script : Lines) (numbers : List ℕ) : Type 0 where
  pub all : length numbers ≡ length script.declarations
  pub each : (at : ℕ) → at < length numbers → slice_get numbers at ≡ Some (how_many (is_feed script) (take at script.declarations))

-- by thread, the positions of those of these steps that pass the test for its seat
pub record AreQueues (test : ℕ → SourceLine → Bool) (steps : List SourceLine) (queues : List (List ℕ)) : Type 0 where
  pub seats : length queues ≡ 64
  pub each : (thread : ℕ) (queue : List ℕ) → slice_get queues thread ≡ Some queue → queue ≡ positions_where (test (thread + 1)) 0 steps

-- by step, the position of the name that it gives
pub record AreGivings (script : Lines) (givings : List (Option ℕ)) : Type 0 where
  pub all : length givings ≡ length script.steps
  pub each : (i : ℕ) → i < length givings → slice_get givings i ≡ Some (given_by script i)

-- what a plan keeps is so of its script
pub record IsPlanned (script : Lines) (names : ℕ) (numbers feeds : List ℕ) (queues turns : List (List ℕ))
    (givings : List (Option ℕ)) : Type 0 where
  pub known : IsKnown script
  pub total : names ≡ length (names_of script)
  pub numbered : AreNumbers script numbers
  pub fed : AreFeedNumbers script feeds
  pub queued : AreQueues (is_called script) script.steps queues
  pub turned : AreQueues (is_seated script) script.steps turns
  pub giving : AreGivings script givings

abbrev pub items_of : List (Vec ℕ Global) → List (List ℕ)
items_of queues = map (λ queue. queue.items) queues

-- a declared name's object, if `made` objects are made
abbrev pub object_among : Lines → ℕ → ℕ → Option ℕ
object_among script made at =
    let object = number_of script at in
    if nat_lt object made then Some object else None
