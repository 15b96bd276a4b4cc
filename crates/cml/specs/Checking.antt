-- What a check tells of the bytes of a journal.
use Rattle.std.specs.Prelude.{◌≡◌, ◌≢◌, ◌⊎◌, ℕ, ◌<◌, ◌≤◌, Bool, true, false, ◌||◌, nat_eq, codes, string_bytes, List, ◌++◌, take}
use Rattle.std.specs.Prelude.{length, reverse, is_some, String, Option, Some, None, Result, Ok, Err, ⊤}
use Rattle.std.specs.Io.KnownBytes.{Consumes, IsAtEnd}
use Rattle.cml_board.specs.{Entry, Lawful, Expected, RestoredShown, expected_of}
use Rattle.cml_journal.specs.{Stop, State, waiting_at, end_of, last_sum, reading, Progress, IsSoFar, IsUnlawfulJournal, IsFaultyJournal}
use Rattle.cml_journal.specs.{unended, Unended as HowUnended}
use Rattle.cml_journal.specs.{What, shown_line, IsLawfulJournal, IsRestored, number_of, bytes_text, message_of_word, line_of}
use Rattle.cml_journal.specs.declared.stop.Stop.TheVariants as stop
use Rattle.std.specs.List.{starts_with}
use Rattle.std.specs.Fmt.{decimal}
use Rattle.std.specs.Global.{Global}
use Rattle.cml.specs.Lines.{answer_text, expected_text, told_state, told_sum}
use Rattle.cml.specs.declared.check.ending.Ending.{Ending}
use Rattle.cml.specs.declared.check.ending.Ending.TheVariants.{Lawful as lawful, Unlawful, Fault, Unended, BehindCut, ReadFault}
use Rattle.cml.specs.declared.check.ending.Ending.TheVariants.{WriteFault, NoMemory, Compacted, TooLong}
use Rattle.cml.specs.declared.check.wanted.Wanted.{Wanted}
use Rattle.cml.specs.declared.check.wanted.Wanted.TheVariants as wanted
use Rattle.cml.specs.Compacted.{IsCompactOf, IsNoneOf}

-- the ending by what stopped a check: there may be no memory for the right answer to the call, or for what is said of a fault
abbrev pub EndsAs : {M : Type 0} → ℕ → (M → List ℕ) → Progress M → Stop → Ending → Type 0
EndsAs {M} version text progress (stop.Unlawful at line) (Unlawful position entry answer) =
    (position ≡ at) × (entry ≡ line)
    × ((expected : Expected M) → expected_of progress.checker ≡ Some expected → string_bytes answer ≡ answer_text text expected)
EndsAs version text progress (stop.Unlawful at line) NoMemory = ⊤
EndsAs version text progress (stop.Unlawful at line) ending = ⊥
EndsAs version text progress (stop.Fault line what) (Fault number fault due found) =
    (number ≡ line) × (fault ≡ what) × (string_bytes due ≡ expected_text version progress.state what)
    × (string_bytes found ≡ shown_line progress.state.line)
EndsAs version text progress (stop.Fault line what) NoMemory = ⊤
EndsAs version text progress (stop.Fault line what) ending = ⊥
EndsAs version text progress stop.NoMemory ending = ending ≡ NoMemory

-- how a check ends that gave this
abbrev pub ending_of : Result Ending Ending → Ending
ending_of (Ok ending) = ending
ending_of (Err ending) = ending

-- where a check is lawful or unended, or asked for a short journal, the reader is at its end
abbrev pub IsHeardOut : Ending → Option (List ℕ) → Type 0
IsHeardOut (lawful count state) new = IsAtEnd new
IsHeardOut (Unended ends) new = IsAtEnd new
IsHeardOut (Compacted written) new = IsAtEnd new
IsHeardOut (TooLong place) new = IsAtEnd new
IsHeardOut ending new = ⊤

-- an ending that may come before the reader's end
abbrev pub IsEarly : Ending → Type 0
IsEarly (lawful count state) = ⊥
IsEarly (Unended ends) = ⊥
IsEarly (Compacted written) = ⊥
IsEarly (TooLong place) = ⊥
IsEarly ending = ⊤

-- the front of a journal of bytes, plain or sealed
abbrev pub is_of_bytes : List ℕ → Bool
is_of_bytes front = starts_with nat_eq front (codes "journal 2") || starts_with nat_eq front (codes "journal 4")

-- the front of a plain journal that begins after a cut
abbrev pub is_plain_cut : List ℕ → Bool
is_plain_cut front = starts_with nat_eq front (codes "journal 1\nfrom ") || starts_with nat_eq front (codes "journal 2\nfrom ")

-- the same of a sealed one
abbrev pub is_sealed_cut : List ℕ → Bool
is_sealed_cut front = starts_with nat_eq front (codes "journal 3\nfrom ") || starts_with nat_eq front (codes "journal 4\nfrom ")

-- the front of a journal that begins after a cut
abbrev pub is_behind_cut : List ℕ → Bool
is_behind_cut front = is_plain_cut front || is_sealed_cut front

-- what is asked for by `check`, with `--state` or without
abbrev pub wanted_by : Bool → Wanted
wanted_by true = wanted.State
wanted_by false = wanted.Verdict

-- the first bytes that a reader gave, with this left: they are 15, unless it is at its end
pub record IsFront (front : List ℕ) (left : Option (List ℕ)) : Type 0 where
  pub most : length front ≤ 15
  pub ended : length front < 15 → IsAtEnd left

module _ {M : Type 0} (version : ℕ) (meaning : List ℕ → Option M) (text : M → List ℕ) where
  -- the bytes are read without a fault, all entries in them are lawful, and the text ends so
  pub record IsUnendedJournal (bytes : List ℕ) (ends : HowUnended) : Type 0 where
    pub state : State
    pub entries : List (Entry M)
    pub read : reading version meaning (waiting_at 0) bytes ≡ Ok (state, entries)
    pub told : unended version state ≡ Some ends
    pub lawful : Lawful (reverse entries)

  -- the bytes are a whole journal of this many lawful entries. These are the line of its last sum, if it is sealed, and the lines of
  -- its objects, if they are asked for
  pub record IsToldLawful (asked : Wanted) (bytes : List ℕ) (count : ℕ) (state : List ℕ) : Type 0 where
    pub verdict : asked ≢ wanted.Compacted
    pub is : IsLawfulJournal version meaning bytes count
    pub told : state ≡ told_sum (last_sum is.state) ++ told_state text asked (reverse is.entries)

  -- a short journal was asked for, the bytes are a whole journal of lawful entries, sealed or not, and this is said of what they leave
  pub record IsToldShort (asked : Wanted) (bytes : List ℕ) (Says : Bool → RestoredShown M → Type 0) : Type 0 where
    pub short : asked ≡ wanted.Compacted
    pub count : ℕ
    pub is : IsLawfulJournal version meaning bytes count
    pub restored : RestoredShown M
    pub left : IsRestored version meaning bytes 1 restored
    pub says : Says (is_some (last_sum is.state)) restored

  -- this is the line of the first entry that is unlawful, and the right answer to its call
  pub record IsToldUnlawful (bytes : List ℕ) (at : ℕ) (line answer : List ℕ) : Type 0 where
    pub entry : Entry M
    pub expected : Expected M
    pub is : IsUnlawfulJournal version meaning bytes at entry expected
    pub told : line ≡ line_of text entry
    pub answered : answer ≡ answer_text text expected

  -- this is the first fault, on this line, and these are what is expected there and what was found
  pub record IsToldFaulty (bytes : List ℕ) (line : ℕ) (what : What) (due found : List ℕ) : Type 0 where
    pub is : IsFaultyJournal version meaning bytes line what
    pub expected : due ≡ expected_text version is.state what
    pub shown : found ≡ shown_line is.state.line

  -- what an ending says of the bytes of a journal
  abbrev pub Tells : Wanted → List ℕ → Ending → Type 0
  Tells asked bytes (lawful count state) = IsToldLawful asked bytes count (string_bytes state)
  Tells asked bytes (Unlawful at line answer) = IsToldUnlawful bytes at (string_bytes line) (string_bytes answer)
  Tells asked bytes (Fault line what due found) = IsToldFaulty bytes line what (string_bytes due) (string_bytes found)
  Tells asked bytes (Unended ends) = IsUnendedJournal bytes ends
  Tells asked bytes BehindCut = is_behind_cut bytes ≡ true
  Tells asked bytes (Compacted written) =
      IsToldShort asked bytes (λ sealed restored. IsCompactOf version text sealed restored (string_bytes written))
  Tells asked bytes (TooLong place) = IsToldShort asked bytes (λ sealed restored. IsNoneOf text restored (TooLong place))
  Tells asked bytes ending = ⊤

  -- these are the lines of the objects of what was read so far, if they are asked for
  abbrev pub IsStateOf : Wanted → List ℕ → Progress M → List ℕ → Type 0
  IsStateOf asked bytes progress state = (so : IsSoFar version meaning bytes progress) → state ≡ told_state text asked (reverse so.entries)

  -- a check ends in these bytes, after any others
  abbrev pub EndsIn : Progress M → List ℕ → Ending → Type 0
  EndsIn old bytes ending =
      IsEarly ending × ((asked : Wanted) (before : List ℕ) → IsSoFar version meaning before old → Tells asked (before ++ bytes) ending)

  -- a reader gave some bytes, and this is how the check of them ends after the first 15 bytes, or after all if they are fewer
  pub record Concludes (asked : Wanted) (front : List ℕ) (old new : Option (List ℕ)) (ending : Ending) : Type 0 where
    pub bytes : List ℕ
    pub long : front ≡ take 15 (front ++ bytes)
    pub given : Consumes old new bytes
    pub heard : IsHeardOut ending new
    pub told : Tells asked (front ++ bytes) ending

-- the check after a front, whose messages are bytes or numbers
abbrev pub ConcludesAs : Bool → Wanted → List ℕ → Option (List ℕ) → Option (List ℕ) → Ending → Type 0
ConcludesAs true asked front old new ending = Concludes 2 message_of_word bytes_text asked front old new ending
ConcludesAs false asked front old new ending = Concludes 1 number_of decimal asked front old new ending

abbrev pub ConcludesBy : Wanted → List ℕ → Option (List ℕ) → Option (List ℕ) → Ending → Type 0
ConcludesBy asked front old new ending = ConcludesAs (is_of_bytes front) asked front old new ending

-- an ending that says nothing of a journal
abbrev pub IsSilent : Ending → Type 0
IsSilent ReadFault = ⊤
IsSilent WriteFault = ⊤
IsSilent NoMemory = ⊤
IsSilent ending = ⊥

-- a reader gave some bytes
abbrev pub IsRead : Option (List ℕ) → Option (List ℕ) → Type 0
IsRead old new = (bytes : List ℕ) × Consumes old new bytes

-- what an ending says of a journal whose messages are bytes, or numbers
abbrev pub TellsAs : Bool → Wanted → List ℕ → Ending → Type 0
TellsAs true asked bytes ending = Tells 2 message_of_word bytes_text asked bytes ending
TellsAs false asked bytes ending = Tells 1 number_of decimal asked bytes ending

-- a reader gave a front that is after a cut, and no more was asked for
pub record GivesCut (old new : Option (List ℕ)) : Type 0 where
  pub front : List ℕ
  pub given : Consumes old new front
  pub most : length front ≤ 15
  pub cut : is_behind_cut front ≡ true

-- a check ends in the front
abbrev pub EndsInFront : Option (List ℕ) → Option (List ℕ) → Ending → Type 0
EndsInFront old new BehindCut = GivesCut old new
EndsInFront old new ending = IsSilent ending × IsRead old new

-- a reader gave the first 15 bytes, or all if they are fewer, and the rest, and this is how their check ends. By these first bytes
-- the messages are numbers or bytes, and the journal begins after a cut or doesn't. This was asked for
pub record IsVerdict (asked : Wanted) (old new : Option (List ℕ)) (ending : Ending) : Type 0 where
  pub front : List ℕ
  pub rest : List ℕ
  pub long : front ≡ take 15 (front ++ rest)
  pub given : Consumes old new (front ++ rest)
  pub heard : IsHeardOut ending new
  pub cut : is_behind_cut front ≡ true → (ending ≡ BehindCut) ⊎ IsSilent ending
  pub told : TellsAs (is_of_bytes front) asked (front ++ rest) ending
