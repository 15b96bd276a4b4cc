-- How a script is kept, and what a reader of its lists may rely on.
use Rattle.std.specs.Prelude.{ℕ, ◌≡◌, ◌<◌, ◌≤◌, ◌==◌, Bool, true, false, not, if◌then◌else◌, List, [], ◌++◌, length, map, Some}
use Rattle.std.specs.Prelude.{is_some, String, string_bytes, slice_get, All, ⊤, ◌⊎◌}
use Rattle.std.specs.Global.{Global}
use Rattle.std.specs.Map.{keys_of}
use Rattle.cml_calls.specs.{is_text, given, asked, names_one}
use Rattle.cml_grammar.specs.declared.names.Named.{Named}
use Rattle.cml_grammar.specs.declared.names.Named.TheVariants as called
use Rattle.cml_grammar.specs.declared.names.Users.{Users}
use Rattle.cml_grammar.specs.declared.names.Users.TheVariants as users
use Rattle.cml_grammar.specs.declared.forms.Declares.{Declares}
use Rattle.cml_grammar.specs.declared.forms.Declares.TheVariants as declares
use Rattle.cml_grammar.specs.declared.forms.Action.{Action}
use Rattle.cml_grammar.specs.declared.forms.Action.TheVariants.{Give, Ask}
use Rattle.cml_grammar.specs.declared.forms.Place.TheVariants.{Object}
use Rattle.cml_grammar.specs.declared.forms.Makes.{Makes}
use Rattle.cml_grammar.specs.declared.forms.Makes.TheVariants as makes
use Rattle.cml_grammar.specs.declared.script.Line.{Line}
use Rattle.cml_grammar.specs.declared.script.Declaration.{Declaration}
use Rattle.cml_grammar.specs.declared.script.Lane.{Lane}
use Rattle.cml_grammar.specs.declared.script.Step.{Step}
use Rattle.cml_grammar.specs.Words.{words_of}
use Rattle.cml_grammar.specs.Names.{Given, thread_count}
use Rattle.cml_grammar.specs.Forms.{form_of, asked_place}
use Rattle.cml_grammar.specs.Suiting.{IsSuitedAt}
use Rattle.cml_grammar.specs.Faults.{Ends, is_declaration, is_lane, is_step, says}
use Rattle.cml_grammar.specs.Script.{SourceLine, Lines, source, with_line}
use Rattle.cml_grammar.specs.Meaning.{scope_of, names_of, makes_of, action_of, seat_of_step}
use Rattle.cml_grammar.specs.Giving.{declared_word, asked_word, names_before, NamesAreGiven}
use Rattle.cml_grammar.specs.Rings.{lane_of}

abbrev pub source_of : Line → SourceLine
source_of line = record { number = line.number; words = words_of (string_bytes line.text) }

abbrev pub view_of : ℕ → List Declaration → List Lane → List Step → Lines
view_of version declarations lanes steps = record {
  version = version;
  declarations = map (λ d. source_of d.line) declarations;
  lanes = map (λ l. source_of l.line) lanes;
  steps = map (λ s. source_of s.line) steps;
}

-- the names as a list of texts, with what each names
abbrev pub texts_of : List (String Global × Named) → List Given
texts_of entries = map (λ e. (string_bytes e.0, e.1)) entries

-- the name at this position is a mailbox's
abbrev pub IsMailboxAt : List Given → ℕ → Type 0
IsMailboxAt names at = (word : List ℕ) × (slice_get names at ≡ Some (word, called.Mailbox))

-- .. a channel's
abbrev pub IsChannelAt : List Given → ℕ → Type 0
IsChannelAt names at = (word : List ℕ) × (slice_get names at ≡ Some (word, called.Channel))

-- .. a port's
abbrev pub IsPortAt : List Given → ℕ → Type 0
IsPortAt names at = (word : List ℕ) × (whose : Users) × (slice_get names at ≡ Some (word, called.Port whose))

-- .. a feed's
abbrev pub IsFeedAt : List Given → ℕ → Type 0
IsFeedAt names at = (word : List ℕ) × (owner : ℕ) × (slice_get names at ≡ Some (word, called.Feed owner))

-- .. one's that a lane can lead to
abbrev pub IsTargetAt : List Given → ℕ → Type 0
IsTargetAt names at = IsMailboxAt names at ⊎ IsChannelAt names at

-- .. an i-variable's
abbrev pub IsIVarAt : List Given → ℕ → Type 0
IsIVarAt names at = (word : List ℕ) × (slice_get names at ≡ Some (word, called.IVar))

-- .. an m-variable's
abbrev pub IsMVarAt : List Given → ℕ → Type 0
IsMVarAt names at = (word : List ℕ) × (slice_get names at ≡ Some (word, called.MVar))

-- .. and one of either
abbrev pub IsVariableAt : List Given → ℕ → Type 0
IsVariableAt names at = IsIVarAt names at ⊎ IsMVarAt names at

-- the name that a step uses was given, to something that takes the step's call
abbrev pub UsesWell : List Given → Action → Type 0
UsesWell names (Give call at message) = IsSuitedAt names (Object (given call).takers) at × (is_text message ≡ true)
UsesWell names (Ask call at) = IsSuitedAt names (asked_place call) at

-- the position of the name that a step uses
abbrev pub used_by : Action → ℕ
used_by (Give call at message) = at
used_by (Ask call at) = at

-- a port of one seat is that seat's alone, and so is a feed
abbrev pub MayUse : ℕ → Named → Type 0
MayUse seat (called.Port (users.One owner)) = owner ≡ seat
MayUse seat (called.Feed owner) = owner ≡ seat
MayUse seat _ = ⊤

-- the name at this position is for this seat
abbrev pub IsYours : List Given → ℕ → ℕ → Type 0
IsYours names seat at = (g : Given) × (slice_get names at ≡ Some g) × MayUse seat g.1

-- whether a step gives a name
abbrev pub gives_name : Action → Bool
gives_name (Give call at message) = false
gives_name (Ask call at) = names_one (asked call)

-- a seat is a declared thread's
abbrev pub IsSeat : List Given → ℕ → Type 0
IsSeat names seat = (1 ≤ seat) × (seat ≤ thread_count names)

abbrev pub IsCapacity : ℕ → Type 0
IsCapacity capacity = (1 ≤ capacity) × (capacity ≤ 1024)

-- each name that the declaration at this position uses was given before it, for something that it can be made of, a message has
-- 64 bits, and a feed is a declared thread's and has a capacity from 1 to 1,024
abbrev pub IsMadeWell : List Given → ℕ → Makes → Type 0
IsMadeWell names i (makes.Port channel) = IsChannelAt names channel × (channel < i)
IsMadeWell names i (makes.MVarInit message) = is_text message ≡ true
IsMadeWell names i (makes.Feed f) = IsChannelAt names f.channel × (f.channel < i) × IsSeat names f.seat × IsCapacity f.capacity
IsMadeWell names i _ = ⊤

-- a thread's seat is one of the first n, and so is a feed's
abbrev pub IsSeatedWithin : ℕ → Named → Type 0
IsSeatedWithin n (called.Thread seat) = (1 ≤ seat) × (seat ≤ n)
IsSeatedWithin n (called.Feed owner) = (1 ≤ owner) × (owner ≤ n)
IsSeatedWithin n _ = ⊤

-- the word is the name at this position, and names what the declaration makes
abbrev pub GivesAt : List Given → ℕ → List ℕ → Makes → Type 0
GivesAt names at word makes.Thread = (seat : ℕ) × (slice_get names at ≡ Some (word, called.Thread seat))
GivesAt names at word makes.Mailbox = slice_get names at ≡ Some (word, called.Mailbox)
GivesAt names at word makes.Channel = slice_get names at ≡ Some (word, called.Channel)
GivesAt names at word (makes.Port channel) = slice_get names at ≡ Some (word, called.Port users.Every)
GivesAt names at word makes.IVar = slice_get names at ≡ Some (word, called.IVar)
GivesAt names at word makes.MVar = slice_get names at ≡ Some (word, called.MVar)
GivesAt names at word (makes.MVarInit message) = slice_get names at ≡ Some (word, called.MVar)
GivesAt names at word (makes.Feed f) = slice_get names at ≡ Some (word, called.Feed f.seat)

-- the i-th declaration gives the i-th name, which is the word in the name's place
abbrev pub Gives : List Given → ℕ → Declaration → Type 0
Gives names i d = (word : List ℕ) × (declared_word (words_of (string_bytes d.line.text)) ≡ Some word) × GivesAt names i word d.makes

pub record GivesNames (names : List Given) (declared : List Declaration) : Type 0 where
  pub each : (i : ℕ) (d : Declaration) → slice_get declared i ≡ Some d → Gives names i d
  pub made : (i : ℕ) (d : Declaration) → slice_get declared i ≡ Some d → IsMadeWell names i d.makes

-- what a declaration was read as is what its words mean among the script's names
pub record ReadsDeclaration (names : List Given) (d : Declaration) : Type 0 where
  pub makes : makes_of names (words_of (string_bytes d.line.text)) ≡ Some d.makes

-- what a lane line was read as is what its words mean among the script's names
pub record ReadsLane (names : List Given) (l : Lane) : Type 0 where
  pub says : lane_of names (words_of (string_bytes l.line.text)) ≡ Some ((l.seat, l.target), l.capacity)
  pub seated : IsSeat names l.seat
  pub target : IsTargetAt names l.target
  pub capacity : IsCapacity l.capacity

-- what a step was read as is what its words mean among the script's names
pub record ReadsStep (names : List Given) (s : Step) : Type 0 where
  pub seat : seat_of_step names (words_of (string_bytes s.line.text)) ≡ Some s.seat
  pub seated : (1 ≤ s.seat) × (s.seat ≤ thread_count names)
  pub action : action_of names (words_of (string_bytes s.line.text)) ≡ Some s.action
  pub uses : UsesWell names s.action
  pub yours : IsYours names s.seat (used_by s.action)
  pub gives : gives_name s.action ≡ is_some (asked_word (words_of (string_bytes s.line.text)))

-- each name that a step uses is given before it
abbrev pub UsesEarlier : Lines → List Step → Type 0
UsesEarlier script asked = (k : ℕ) (s : Step) → slice_get asked k ≡ Some s
    → used_by s.action < names_before script.declarations script.steps k

-- the capacity of each lane by its ends
abbrev pub capacities_of : List Lane → List (Ends × ℕ)
capacities_of lanes = map (λ l. ((l.seat, l.target), l.capacity)) lanes

pub record IsReading (script : Lines) (entries : List (String Global × Named)) (declared : List Declaration) (laid : List Lane)
    (capacities : List (Ends × ℕ)) (asked : List Step) : Type 0 where
  pub names : texts_of entries ≡ names_of script
  pub gives : GivesNames (names_of script) declared
  pub given : NamesAreGiven (names_of script) script.declarations script.steps
  pub declarations : All (ReadsDeclaration (names_of script)) declared
  pub lanes : All (ReadsLane (names_of script)) laid
  pub capacities_are : capacities ≡ capacities_of laid
  pub steps : All (ReadsStep (names_of script)) asked
  pub earlier : UsesEarlier script asked
  pub threads : thread_count (names_of script) ≤ 64
  pub few : length declared ≤ 1048576
  pub narrow : length laid ≤ 1048576
  pub short : length asked ≤ 1048576

-- the same of the lines so far, with the number of threads beside them, and what the next line needs to know
pub record IsReadSoFar (script : Lines) (entries : List (String Global × Named)) (declared : List Declaration) (laid : List Lane)
    (capacities : List (Ends × ℕ)) (asked : List Step) (threads : ℕ) : Type 0 where
  pub names : texts_of entries ≡ names_of script
  pub gives : GivesNames (names_of script) declared
  pub given : NamesAreGiven (names_of script) script.declarations script.steps
  pub declarations : All (ReadsDeclaration (names_of script)) declared
  pub lanes : All (ReadsLane (names_of script)) laid
  pub capacities_are : capacities ≡ capacities_of laid
  pub steps : All (ReadsStep (names_of script)) asked
  pub earlier : UsesEarlier script asked
  pub count : threads ≡ thread_count (names_of script)
  pub limit : threads ≤ 64
  pub seats : All (λ g. IsSeatedWithin (thread_count (names_of script)) g.1) (names_of script)
  pub started : (scope_of script).started ≡ not (length asked == 0)
  pub ends : (scope_of script).lanes ≡ keys_of capacities

-- how many threads a declaration adds
abbrev pub threads_by : Declares → ℕ
threads_by declares.Thread = 1
threads_by _ = 0

-- a script so far, and after it a line of words
abbrev pub with_words : Lines → ℕ → List ℕ → Lines
with_words script k line =
    let form = form_of (names_of script) (words_of line) in
    record {
      version = script.version;
      declarations = script.declarations ++ with_line (is_declaration form) (source k line) [];
      lanes = script.lanes ++ with_line (is_lane form) (source k line) [];
      steps = script.steps ++ with_line (is_step form) (source k line) [];
    }

-- a script so far, and after it any line
abbrev pub with_next : Lines → ℕ → List ℕ → Lines
with_next script k line = if says k line then with_words script k line else script
