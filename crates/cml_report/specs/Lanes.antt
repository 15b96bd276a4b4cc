-- Whether what lanes moved is what a script's threads sent by them.
use Rattle.std.specs.Prelude.{ℕ, ◌≡◌, ◌≢◌, ◌+◌, ◌<◌, ◌≤◌, ◌==◌, ◌&&◌, Bool, true, false, List, [], ◌∷◌, ◌++◌, length, drop}
use Rattle.std.specs.Prelude.{slice_get, Option, Some, if◌then◌else◌, ⊤}
use Rattle.std.specs.Option.{option_map, option_map_or}
use Rattle.std.specs.List.{list_any}
use Rattle.cml_board.specs.{Call, Who, Entry}
use Rattle.cml_board.specs.declared.entry.Who.TheVariants.{Seat, Lane, Feed}
use Rattle.cml_grammar.specs.{SourceLine, Lines, names_of, action_of, used_by, Laid, lane_of}
use Rattle.cml_report.specs.Schedule.{History, number_of, is_seated, call_on}
use Rattle.cml_report.specs.Audit.{sent_to}
use Rattle.cml_report.specs.Left.{is_laid, is_moved}

-- What threads send.

-- the step uses the name at this position
abbrev pub is_of_name : Lines → ℕ → SourceLine → Bool
is_of_name script at line = option_map_or (λ asked. used_by asked == at) (action_of (names_of script) line.words) false

-- a step of the thread with this seat that goes by a lane to the object with the name at this position
abbrev pub is_laid_to : Lines → ℕ → ℕ → SourceLine → Bool
is_laid_to script seat at line = is_seated script seat line && (is_laid script line && is_of_name script at line)

-- the call of such a step, with its message
abbrev pub call_to : Lines → ℕ → SourceLine → Option (Call (List ℕ))
call_to script at line = option_map (λ asked. call_on asked (record { 0 = number_of script at })) (action_of (names_of script) line.words)

-- the calls of those of these lines that are such steps, in text order
abbrev pub sends_to : Lines → ℕ → ℕ → List SourceLine → List (Option (Call (List ℕ)))
sends_to script seat at [] = []
sends_to script seat at (line ∷ lines) =
    if is_laid_to script seat at line then call_to script at line ∷ sends_to script seat at lines else sends_to script seat at lines

-- What lanes move.

-- a lane that the thread with this seat opened: the list tells, by lane, which seat did
abbrev pub is_lane_of : List ℕ → ℕ → Who → Bool
is_lane_of lanes seat (Seat s) = false
is_lane_of lanes seat (Lane lane) = option_map_or (λ s. s == seat) (slice_get lanes lane) false
is_lane_of lanes seat (Feed feed) = false

-- a send or a multicast to this object
abbrev pub is_sent_to : ℕ → Call (List ℕ) → Bool
is_sent_to object asked = option_map_or (λ o. o == object) (sent_to asked) false

-- a lane of the thread with this seat moved a message to this object
abbrev pub is_moved_to : List ℕ → ℕ → ℕ → Entry (List ℕ) → Bool
is_moved_to lanes seat object entry = is_lane_of lanes seat entry.who && is_sent_to object entry.call

-- the calls of such entries, the oldest first
abbrev pub moved_to : List ℕ → ℕ → ℕ → History → List (Option (Call (List ℕ)))
moved_to lanes seat object [] = []
moved_to lanes seat object (entry ∷ before) =
    if is_moved_to lanes seat object entry then moved_to lanes seat object before ++ Some entry.call ∷ []
    else moved_to lanes seat object before

-- The one is the other.

-- a list is the beginning of another
abbrev pub IsBeginning : {X : Type 0} → List X → List X → Type 0
IsBeginning {X} front whole = (rest : List X) × (front ++ rest ≡ whole)

-- what the lanes of a thread moved to an object is the beginning of what the thread sends to it by lanes: each message, in order
abbrev pub IsInOrder : Lines → List ℕ → History → ℕ → ℕ → Type 0
IsInOrder script lanes history seat at =
    IsBeginning (moved_to lanes seat (number_of script at) history) (sends_to script seat at script.steps)

-- it is so of the thread and the object of the lane line at this position
abbrev pub IsInOrderAt : Lines → List ℕ → History → ℕ → Type 0
IsInOrderAt script lanes history k = (line : SourceLine) (laid : Laid) → slice_get script.lanes k ≡ Some line
    → lane_of (names_of script) line.words ≡ Some laid
    → IsInOrder script lanes history laid.0.0 laid.0.1

-- a lane of the thread of this lane line moved a message to its object
abbrev pub is_moved_on : Lines → List ℕ → Entry (List ℕ) → SourceLine → Bool
is_moved_on script lanes entry line =
    option_map_or (λ laid. is_moved_to lanes laid.0.0 (number_of script laid.0.1) entry) (lane_of (names_of script) line.words) false

-- what a lane moved was moved so on some lane line
abbrev pub IsOnLine : Lines → List ℕ → Entry (List ℕ) → Type 0
IsOnLine script lanes entry = is_moved entry ≡ true → list_any (is_moved_on script lanes entry) script.lanes ≡ true

-- each message that a lane moved was
abbrev pub AreOnLines : Lines → List ℕ → History → Type 0
AreOnLines script lanes [] = ⊤
AreOnLines script lanes (entry ∷ before) = IsOnLine script lanes entry × AreOnLines script lanes before

-- what lanes moved is what the threads sent by them: each message was moved on a lane line, and those of each lane line are the
-- beginning of what its thread sends so to its object
pub record AreSentInOrder (script : Lines) (lanes : List ℕ) (history : History) : Type 0 where
  pub lines : AreOnLines script lanes history
  pub order : (k : ℕ) → k < length script.lanes → IsInOrderAt script lanes history k

-- The inside of the test.

-- the next such step from this position on is at that one, and no script has more steps than fit
pub record IsNextLaid (script : Lines) (seat at from i : ℕ) : Type 0 where
  pub line : SourceLine
  pub found : slice_get script.steps i ≡ Some line
  pub few : i < 1048576
  pub more : sends_to script seat at (drop from script.steps) ≡ call_to script at line ∷ sends_to script seat at (drop (i + 1) script.steps)

-- the next such step from this position on has this call, and the others are from that position on
pub record IsSent (script : Lines) (seat at from : ℕ) (asked : Call (List ℕ)) (next : ℕ) : Type 0 where
  pub within : next ≤ length script.steps
  pub more : sends_to script seat at (drop from script.steps) ≡ Some asked ∷ sends_to script seat at (drop next script.steps)

-- it has another call, or there is none
abbrev pub IsNotSent : Lines → ℕ → ℕ → ℕ → Call (List ℕ) → Type 0
IsNotSent script seat at from asked = (rest : List (Option (Call (List ℕ))))
    → sends_to script seat at (drop from script.steps) ≢ Some asked ∷ rest

-- if a lane of the thread moved the entry to the object, it is what the thread sends next, and then come the steps from that
-- position on
pub record IsBehind (script : Lines) (lanes : List ℕ) (seat at from : ℕ) (entry : Entry (List ℕ)) (next : ℕ) : Type 0 where
  pub within : next ≤ length script.steps
  pub moves : is_moved_to lanes seat (number_of script at) entry ≡ true → IsSent script seat at from entry.call next
  pub stays : is_moved_to lanes seat (number_of script at) entry ≡ false → next ≡ from

-- a lane of the thread moved the entry to the object, and it isn't what the thread sends next
pub record IsAstray (script : Lines) (lanes : List ℕ) (seat at from : ℕ) (entry : Entry (List ℕ)) : Type 0 where
  pub moved : is_moved_to lanes seat (number_of script at) entry ≡ true
  pub other : IsNotSent script seat at from entry.call
