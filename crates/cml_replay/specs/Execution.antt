-- The inside of `play`: a script under way, what its execution is seen as, and what it keeps.
use Rattle.std.specs.Prelude.{ℕ, ◌≡◌, ◌<◌, List, ◌∷◌, ◌≤◌, ◌^◌, length, min, slice_get, Option, Some, None, ⊤, Bool, IsTrue, ◌↔◌}
use Rattle.std.specs.Option.{option_and_then}
use Rattle.cml_board.specs.{Call, Entry, entries_in, Lawful, kind_of, Fits, answer}
use Rattle.cml_board.specs.declared.call.Call.TheVariants as call
use Rattle.cml_calls.specs.{Kind}
use Rattle.cml_board.specs.declared.entry.Who.TheVariants.{Seat}
use Rattle.cml_grammar.specs.{Lines, names_of, Makes, IsChannelAt, first_ring}
use Rattle.cml_grammar.specs.declared.forms.Makes.TheVariants as makes
use Rattle.cml_report.specs.declared.binding.Binding.{Binding}
use Rattle.cml_report.specs.Schedule.{objects_of, object_of, declared_object, declared_count, call_in, History, next_position, Follows}
use Rattle.cml_report.specs.Schedule.{IsReady}
use Rattle.cml_report.specs.Bindings.{AreBindings, AreCounts}
use Rattle.cml_report.specs.Plan.{IsKnown, IsObject, IsObjectAt}

-- the script, what was performed of it, newest first, and how many entries there may be
pub record Executed : Type 0 where
  pub script : Lines
  pub history : History
  pub limit : ℕ

-- what an execution keeps is so of what was performed of a script without rings
pub record Stands (executed : Executed) (counts : List ℕ) (bindings : List Binding) : Type 0 where
  pub lawful : Lawful executed.history
  pub room : entries_in executed.history ≤ executed.limit
  pub bounded : executed.limit ≤ 2 ^ 32
  pub follows : Follows executed.script executed.history
  pub plain : first_ring executed.script ≡ None
  pub known : IsKnown executed.script
  pub counted : AreCounts executed.history counts
  pub bound : AreBindings executed.script executed.history bindings

-- one entry more was performed
abbrev pub with_entry : Executed → Entry (List ℕ) → Executed
with_entry executed entry = record { script = executed.script; history = entry ∷ executed.history; limit = executed.limit }

-- the earlier of two steps, where there are two
abbrev pub earlier_of : Option ℕ → Option ℕ → Option ℕ
earlier_of None other = other
earlier_of (Some i) None = Some i
earlier_of (Some i) (Some j) = Some (min i j)

-- the i-th step is ready, and is its thread's
abbrev pub IsReadyOf : Lines → History → ℕ → ℕ → Type 0
IsReadyOf script history seat i = (asked : Call (List ℕ)) × IsReady script history i seat asked

-- no step of that thread is
abbrev pub NoneReadyOf : Lines → History → ℕ → Type 0
NoneReadyOf script history seat = (i : ℕ) (asked : Call (List ℕ)) → IsReady script history i seat asked → ⊥

-- the i-th step is the least of all that are ready
pub record IsLeast (script : Lines) (history : History) (i : ℕ) : Type 0 where
  pub seat : ℕ
  pub asked : Call (List ℕ)
  pub ready : IsReady script history i seat asked
  pub least : (other by : ℕ) (call : Call (List ℕ)) → IsReady script history other by call → i ≤ other

-- the entry is the call of the i-th step, the least that was ready
pub record IsStepAt (script : Lines) (before : History) (entry : Entry (List ℕ)) (i : ℕ) : Type 0 where
  pub least : IsLeast script before i
  pub who : entry.who ≡ Seat least.seat
  pub call : entry.call ≡ least.asked

-- of the threads before this one, none has a step that is ready, or this is the least such step
abbrev pub IsLeastBelow : Lines → History → ℕ → Option ℕ → Type 0
IsLeastBelow script history thread None = (seat i : ℕ) (asked : Call (List ℕ)) → seat ≤ thread → IsReady script history i seat asked → ⊥
IsLeastBelow script history thread (Some i) =
    (seat : ℕ) × (asked : Call (List ℕ)) × IsReady script history i seat asked
    × ((by other : ℕ) (call : Call (List ℕ)) → by ≤ thread → IsReady script history other by call → i ≤ other)

-- this call would be made, on objects that are there and can take it, and it would wait just where the test says so
abbrev pub WaitsIf : History → Option (Call (List ℕ)) → Bool → Type 0
WaitsIf history made test = (asked : Call (List ℕ)) × (made ≡ Some asked) × Fits history asked
    × (IsTrue test ↔ (answer history asked ≡ None))

-- the step is its thread's next
abbrev pub IsNextStep : Executed → ℕ → Type 0
IsNextStep executed i = (seat : ℕ) × (next_position executed.script executed.history (Seat seat) ≡ Some i)

-- the name is an object's, and has an object of its kind
pub record IsBound (executed : Executed) (at : ℕ) : Type 0 where
  pub named : IsObject (names_of executed.script) at
  pub object : ℕ
  pub stands : object_of executed.script executed.history at ≡ Some object
  pub kind : (k : Kind) → IsObjectAt (names_of executed.script) at k → kind_of executed.history object ≡ Some k

-- the call makes the next declared object
pub record IsNextObject (executed : Executed) (making : Call (List ℕ)) : Type 0 where
  pub left : entries_in executed.history < declared_count executed.script
  pub makes : option_and_then (call_in executed.script executed.history)
      (slice_get (objects_of executed.script) (entries_in executed.history)) ≡ Some making

-- the next object is a port of this channel, which is made
abbrev pub IsNextPort : Executed → ℕ → Type 0
IsNextPort executed channel =
    IsChannelAt (names_of executed.script) channel
    × (channel < length executed.script.declarations) × (o : ℕ) × (declared_object executed.script executed.history channel ≡ Some o)
    × IsNextObject executed (call.NewPort (record { 0 = o }))

-- the next object is what this declaration makes, of objects that are made
abbrev pub IsNext : Executed → Makes → Type 0
IsNext executed makes.Thread = ⊤
IsNext executed makes.Mailbox = IsNextObject executed call.NewMailbox
IsNext executed makes.Channel = IsNextObject executed call.NewChannel
IsNext executed makes.IVar = IsNextObject executed call.NewIVar
IsNext executed makes.MVar = IsNextObject executed call.NewMVar
IsNext executed (makes.MVarInit message) = IsNextObject executed (call.MVarInit message)
IsNext executed (makes.Port channel) = IsNextPort executed channel
IsNext executed (makes.Feed feed) = IsNextPort executed feed.channel
