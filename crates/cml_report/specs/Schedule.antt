-- In which order a script's calls are made. A history is a list of entries, the newest first.
use Rattle.std.specs.Prelude.{ℕ, suc, ◌≡◌, ◌≢◌, ◌-◌, ◌<◌, ◌≤◌, ◌==◌, ◌&&◌, not, ◌⊎◌, Bool, true, false, nat_lt, List, [], ◌∷◌, length}
use Rattle.std.specs.Prelude.{take, filter, slice_get, Option, Some, None, MatchBool, if◌then◌else◌, ⊤}
use Rattle.std.specs.Option.{option_map, option_map_or, option_and_then}
use Rattle.cml_report.specs.Counting.{how_many}
use Rattle.cml_calls.specs.declared.table.Give.TheVariants as give
use Rattle.cml_calls.specs.declared.table.Ask.TheVariants as ask
use Rattle.cml_board.specs.{Name, Call, Who, Reply, Entry, given_call, asked_call, entries_in, Lawful, answer}
use Rattle.cml_board.specs.declared.call.Call.TheVariants as call
use Rattle.cml_board.specs.declared.entry.Who.TheVariants.{Seat, Lane, Feed}
use Rattle.cml_board.specs.declared.entry.Reply.TheVariants as reply
use Rattle.cml_grammar.specs.{Makes, Action, SourceLine, Lines, names_of, makes_of, action_of, seat_of_step, is_giving, names_before}
use Rattle.cml_grammar.specs.{used_by, makes_feed, capacity_of, first_ring}
use Rattle.cml_grammar.specs.declared.forms.Makes.TheVariants as makes
use Rattle.cml_grammar.specs.declared.forms.Action.TheVariants as action
use Rattle.cml_report.specs.declared.binding.Binding.{Binding}
use Rattle.cml_report.specs.declared.binding.Binding.TheVariants as binding
use Rattle.cml_report.specs.declared.route.Route.{Route}
use Rattle.cml_report.specs.declared.route.Route.TheVariants as route
use Rattle.cml_report.specs.declared.stop.Stop.{Stop}
use Rattle.cml_report.specs.declared.stop.Stop.TheVariants.{Done, Stalled, Full, Held}

-- a script's history is the whole journal of a board since it was made: nothing is after its oldest entry
abbrev pub History : Type 0
History = List (Entry (List ℕ))

-- Declarations.

-- a declaration makes an object, or names a thread
abbrev pub makes_object : Makes → Bool
makes_object makes.Thread = false
makes_object _ = true

abbrev pub is_object : Lines → SourceLine → Bool
is_object script line = option_map_or makes_object (makes_of (names_of script) line.words) false

-- and that of a feed its port
abbrev pub is_feed : Lines → SourceLine → Bool
is_feed script line = option_map_or makes_feed (makes_of (names_of script) line.words) false

-- how many feeds are declared
abbrev pub feed_count : Lines → ℕ
feed_count script = how_many (is_feed script) script.declarations

-- the declarations of objects, and how many they are
abbrev pub objects_of : Lines → List SourceLine
objects_of script = filter (is_object script) script.declarations

abbrev pub declared_count : Lines → ℕ
declared_count script = how_many (is_object script) script.declarations

-- who makes the k-th declared object: the feed whose port it is, by its place among the feeds in text order, or else seat 0
abbrev pub maker : Lines → ℕ → Who
maker script k =
    if option_map_or (is_feed script) (slice_get (objects_of script) k) false
    then Feed (how_many (is_feed script) (take k (objects_of script))) else Seat 0

-- the number of the object that the declaration at this position makes: the k-th declared object is the k-th made
abbrev pub number_of : Lines → ℕ → ℕ
number_of script at = how_many (is_object script) (take at script.declarations)

-- the object of a declaration's name, by the name's position, once it is made
abbrev pub declared_object : Lines → History → ℕ → Option ℕ
declared_object script history at =
    let object = number_of script at in
    if nat_lt object (entries_in history) then Some object else None

-- the call that makes what a declaration makes, of its names' objects
abbrev pub making_call : (ℕ → Option ℕ) → Makes → Option (Call (List ℕ))
making_call object makes.Thread = None
making_call object makes.Mailbox = Some call.NewMailbox
making_call object makes.Channel = Some call.NewChannel
making_call object makes.IVar = Some call.NewIVar
making_call object makes.MVar = Some call.NewMVar
making_call object (makes.MVarInit message) = Some (call.MVarInit message)
making_call object (makes.Port channel) = option_map (λ o. call.NewPort (record { 0 = o })) (object channel)
making_call object (makes.Feed feed) = option_map (λ o. call.NewPort (record { 0 = o })) (object feed.channel)

abbrev pub call_in : Lines → History → SourceLine → Option (Call (List ℕ))
call_in script history line = option_and_then (making_call (declared_object script history)) (makes_of (names_of script) line.words)

-- Steps.

-- a step of the thread with this seat
abbrev pub is_seated : Lines → ℕ → SourceLine → Bool
is_seated script seat line = option_map_or (λ s. s == seat) (seat_of_step (names_of script) line.words) false

-- the feed, by its place among the feeds in text order, that the name at this position is
abbrev pub feed_at : Lines → ℕ → Option ℕ
feed_at script at =
    if option_map_or (is_feed script) (slice_get script.declarations at) false
    then Some (how_many (is_feed script) (take at script.declarations)) else None

abbrev pub lane_route : Option ℕ → Route
lane_route None = route.Seat
lane_route (Some capacity) = route.Lane capacity

abbrev pub feed_route : Option ℕ → Route
feed_route None = route.Seat
feed_route (Some feed) = route.Feed feed

-- how a step of this seat goes: a send or a multicast by the seat's lane to the object, where a line lays one, a poll of a
-- feed by that feed, and all else by the seat
abbrev pub route_of : Lines → Option ℕ → Action → Route
route_of script seat (action.Give give.Send at message) =
    lane_route (option_and_then (λ s. capacity_of (names_of script) script.lanes (s, at)) seat)
route_of script seat (action.Give give.Cast at message) =
    lane_route (option_and_then (λ s. capacity_of (names_of script) script.lanes (s, at)) seat)
route_of script seat (action.Ask ask.Poll at) = feed_route (feed_at script at)
route_of script seat _ = route.Seat

abbrev pub route_of_line : Lines → SourceLine → Route
route_of_line script line =
    option_map_or (route_of script (seat_of_step (names_of script) line.words)) (action_of (names_of script) line.words) route.Seat

abbrev pub is_by_ring : Route → Bool
is_by_ring route.Seat = false
is_by_ring (route.Lane capacity) = true
is_by_ring (route.Feed feed) = true

-- a step that goes by a ring of its thread, a lane or a feed
abbrev pub is_apart : Lines → SourceLine → Bool
is_apart script line = is_by_ring (route_of_line script line)

-- how many such steps there are
abbrev pub apart_count : Lines → ℕ
apart_count script = how_many (is_apart script) script.steps

-- a step that the seat of its thread performs
abbrev pub is_called : Lines → ℕ → SourceLine → Bool
is_called script seat line = is_seated script seat line && not (is_apart script line)

-- how many such steps of that thread are before the i-th step of the script
abbrev pub earlier : Lines → ℕ → ℕ → ℕ
earlier script seat i = how_many (is_called script seat) (take i script.steps)

abbrev pub is_seat : ℕ → Who → Bool
is_seat seat (Seat s) = s == seat
is_seat seat (Lane l) = false
is_seat seat (Feed f) = false

abbrev pub is_by : ℕ → Entry (List ℕ) → Bool
is_by seat entry = is_seat seat entry.who

-- how many calls that thread has made
abbrev pub performed : History → ℕ → ℕ
performed history seat = how_many (is_by seat) history

-- the positions from k on of the lines that pass a test
abbrev pub positions_where : (SourceLine → Bool) → ℕ → List SourceLine → List ℕ
positions_where test k [] = []
positions_where test k (line ∷ lines) =
    if test line then k ∷ positions_where test (suc k) lines else positions_where test (suc k) lines

-- the positions from k on of the steps that this seat performs
abbrev pub positions_from : Lines → ℕ → ℕ → List SourceLine → List ℕ
positions_from script seat k lines = positions_where (is_called script seat) k lines

-- the position of the step that the caller's next call performs
abbrev pub next_position : Lines → History → Who → Option ℕ
next_position script history (Seat seat) = slice_get (positions_from script seat 0 script.steps) (performed history seat)
next_position script history (Lane l) = None
next_position script history (Feed f) = None

-- The objects of names.

-- the position of the name that a step gives, if it gives one
abbrev pub given_by : Lines → ℕ → Option ℕ
given_by script i =
    if option_map_or is_giving (slice_get script.steps i) false then Some (names_before script.declarations script.steps i) else None

-- a copy that is answered closed gives the name of the port that it was to copy
abbrev pub closed_by : Call (List ℕ) → Binding
closed_by (call.CopyPort port) = binding.Closed port
closed_by _ = binding.Unbound

-- what a call and its reply give the name
abbrev pub bound_by : Call (List ℕ) → Reply (List ℕ) → Binding
bound_by asked (reply.Made name) = binding.Made name
bound_by asked reply.Closed = closed_by asked
bound_by asked _ = binding.Unbound

-- the caller's next call gives the name at this position
abbrev pub gives_next : Lines → History → Who → ℕ → Bool
gives_next script history who at =
    option_map_or (λ given. given == at) (option_and_then (given_by script) (next_position script history who)) false

-- what a step gave a name
abbrev pub binding_of : Lines → History → ℕ → Binding
binding_of script [] at = binding.Unbound
binding_of script (entry ∷ before) at =
    if gives_next script before entry.who at then bound_by entry.call entry.reply else binding_of script before at

-- the port of a binding, and the one that was made for it
abbrev pub port_bound : Binding → Option ℕ
port_bound binding.Unbound = None
port_bound (binding.Made name) = Some name.0
port_bound (binding.Closed name) = Some name.0

abbrev pub port_made : Binding → Option ℕ
port_made binding.Unbound = None
port_made (binding.Made name) = Some name.0
port_made (binding.Closed name) = None

-- a name's object, by the name's position among the script's
abbrev pub object_of : Lines → History → ℕ → Option ℕ
object_of script history at =
    if nat_lt at (length script.declarations) then declared_object script history at else port_bound (binding_of script history at)

-- the object that was made for a name: none for that of a copy that was answered closed
unfoldable pub made_of : Lines → History → ℕ → Option ℕ
made_of script history at =
    if nat_lt at (length script.declarations) then declared_object script history at else port_made (binding_of script history at)

-- What comes next.

-- what a step asks of an object
abbrev pub call_on : Action → Name → Call (List ℕ)
call_on (action.Give give at message) name = given_call give name message
call_on (action.Ask ask at) name = asked_call ask name

-- and of its name's object
abbrev pub call_of : (ℕ → Option ℕ) → Action → Option (Call (List ℕ))
call_of object asked = option_map (λ o. call_on asked (record { 0 = o })) (object (used_by asked))

-- the call of the i-th step, after this history
abbrev pub step_call : Lines → History → ℕ → Option (Call (List ℕ))
step_call script history i =
    option_and_then (λ line. option_and_then (call_of (object_of script history)) (action_of (names_of script) line.words))
    (slice_get script.steps i)

-- the i-th step is the next of its thread, with this seat and this call, and its call wouldn't wait
pub record IsReady (script : Lines) (history : History) (i seat : ℕ) (asked : Call (List ℕ)) : Type 0 where
  pub line : SourceLine
  pub found : slice_get script.steps i ≡ Some line
  pub seated : is_called script seat line ≡ true
  pub next : earlier script seat i ≡ performed history seat
  pub calls : step_call script history i ≡ Some asked
  pub answered : answer history asked ≢ None

-- no step is ready
abbrev pub NoneReady : Lines → History → Type 0
NoneReady script history = (i seat : ℕ) (asked : Call (List ℕ)) → IsReady script history i seat asked → ⊥

-- the entry is the call of the least step that is ready
pub record IsStep (script : Lines) (before : History) (entry : Entry (List ℕ)) : Type 0 where
  pub step : ℕ
  pub seat : ℕ
  pub by : entry.who ≡ Seat seat
  pub ready : IsReady script before step seat entry.call
  pub least : (i other : ℕ) (asked : Call (List ℕ)) → IsReady script before i other asked → step ≤ i

-- the entry makes the next declared object, by seat 0 or by its feed
pub record IsDeclaration (script : Lines) (before : History) (entry : Entry (List ℕ)) : Type 0 where
  pub by : entry.who ≡ maker script (entries_in before)
  pub makes : option_and_then (call_in script before) (slice_get (objects_of script) (entries_in before)) ≡ Some entry.call

-- each entry is the one that comes next: the declared objects first, and then always the least step that is ready
abbrev pub Follows : Lines → History → Type 0
Follows script [] = ⊤
Follows script (entry ∷ before) =
    MatchBool (nat_lt (entries_in before) (declared_count script)) (IsDeclaration script before entry) (IsStep script before entry)
    × Follows script before

-- how many steps are left
abbrev pub left : Lines → History → ℕ
left script history = length script.steps - (entries_in history - declared_count script)

-- when each ending comes
abbrev pub Ends : Lines → ℕ → History → Stop → Type 0
Ends script limit history Full =
    (entries_in history ≡ limit) × ((0 < left script history) ⊎ (entries_in history < declared_count script))
Ends script limit history Stalled =
    (entries_in history < limit) × (declared_count script ≤ entries_in history) × (0 < left script history) × NoneReady script history
Ends script limit history Done = (declared_count script ≤ entries_in history) × (left script history ≡ 0)
Ends script limit history Held = ⊥

-- the history is that of the script, which has no rings, under this limit, and ends so
pub record Schedule (script : Lines) (limit : ℕ) (history : History) (stop : Stop) : Type 0 where
  pub plain : first_ring script ≡ None
  pub lawful : Lawful history
  pub room : entries_in history ≤ limit
  pub follows : Follows script history
  pub ends : Ends script limit history stop
