-- What a check has found of a journal's text so far, and why it stops.
use Rattle.std.specs.Prelude.{◌≡◌, ◌⊎◌, ℕ, suc, ◌+◌, ◌%◌, ◌^◌, ◌≤◌, not, ◌≢◌, List, [], ◌∷◌, ◌++◌}
use Rattle.std.specs.Prelude.{reverse, length, slice_get, string_bytes, Option, Some, None, Ok, Err, IfOk, ⊤}
use Rattle.cml_board.specs.{Entry, Expected, Lawful, before, AreMakers, RestoredShown, Expects, Found, HasMade, IsFirstUnlawful, Pauses}
use Rattle.cml_board.specs.{StopsAt, count_of}
use Rattle.cml_board.specs.Checking.{Shows}
use Rattle.cml_journal.specs.declared.fault.What.{What}
use Rattle.cml_journal.specs.declared.fault.Unread.{Unread}
use Rattle.cml_journal.specs.declared.fault.Unread.TheVariants as unread
use Rattle.cml_journal.specs.declared.stop.Halt.{Halt}
use Rattle.cml_journal.specs.declared.stop.Halt.TheVariants as halt
use Rattle.cml_journal.specs.declared.stop.Stop.{Stop}
use Rattle.cml_journal.specs.declared.stop.Stop.TheVariants as stop
use Rattle.cml_journal.specs.Lines.{line_of}
use Rattle.cml_journal.specs.Feeding.{State, waiting_at, end_of, reading}

-- how far a journal is read, what its checker shows, whether the check has stopped, and the entry that was read last
pub record Progress (M : Type 0) : Type 0 where
  pub state : State
  pub checker : Found M
  pub halt : Option Halt
  pub last : Option (Entry M)

-- what a check keeps of what a reader met on this line
abbrev pub halt_of : Unread → ℕ → Halt
halt_of unread.Memory line = halt.NoMemory
halt_of (unread.Fault what) line = halt.Fault line what

module _ {M : Type 0} (text : M → List ℕ) where
  -- an entry's line, if there is one
  abbrev pub line_of_last : Option (Entry M) → List ℕ
  line_of_last None = []
  line_of_last (Some entry) = line_of text entry

  -- what a check that halted so may say: there may be no memory for an entry's line
  abbrev pub IsTold : Option (Entry M) → Halt → Stop → Type 0
  IsTold last (halt.Unlawful at) (stop.Unlawful position line) = (position ≡ at) × (string_bytes line ≡ line_of_last last)
  IsTold last (halt.Unlawful at) stop.NoMemory = ⊤
  IsTold last (halt.Fault line what) (stop.Fault number fault) = (number ≡ line) × (fault ≡ what)
  IsTold last halt.NoMemory stop.NoMemory = ⊤
  IsTold last halted told = ⊥

  -- it has halted, and says so from then on
  abbrev pub SaysFrom : Option (Entry M) → Option Halt → Stop → Type 0
  SaysFrom last None told = ⊥
  SaysFrom last (Some halted) told = IsTold last halted told

  abbrev pub IsSpent : Progress M → Stop → Type 0
  IsSpent progress told = SaysFrom progress.last progress.halt told

-- an entry after this history halts a check only where it is unlawful, where no more entries can be counted, or for want of
-- memory, and then the entry may be checked or not
abbrev pub MayHaltAt : {M : Type 0} → Found M → Entry M → Progress M → Halt → Type 0
MayHaltAt checker entry new (halt.Unlawful at) =
    IfOk checker (λ history. Shows history (entry ∷ []) new.checker at × StopsAt history (entry ∷ []) at) × (new.last ≡ Some entry)
MayHaltAt checker entry new halt.NoMemory = (new.checker ≡ checker) ⊎ Pauses checker (entry ∷ []) new.checker
MayHaltAt checker entry new (halt.Fault line what) = 2 ^ 64 ≤ suc (count_of checker)

module _ {M : Type 0} (version : ℕ) (meaning : List ℕ → Option M) where
  -- these bytes were read from position 0 on, and all entries in them are lawful
  pub record IsSoFar (bytes : List ℕ) (progress : Progress M) : Type 0 where
    pub entries : List (Entry M)
    pub read : reading version meaning (waiting_at 0) bytes ≡ Ok (progress.state, entries)
    pub checked : progress.checker ≡ Ok (reverse entries)
    pub lawful : Lawful (reverse entries)
    pub running : progress.halt ≡ None

  -- the first entry that is unlawful is at this position, and this becomes of its call after the entries before it. It is the
  -- last entry of a front of the bytes, which ends with that entry's line
  pub record IsUnlawfulJournal (bytes : List ℕ) (at : ℕ) (entry : Entry M) (expected : Expected M) : Type 0 where
    pub front : List ℕ
    pub rest : List ℕ
    pub whole : bytes ≡ front ++ rest
    pub state : State
    pub entries : List (Entry M)
    pub read : reading version meaning (waiting_at 0) front ≡ Ok (state, entries)
    pub last : suc at ≡ length entries
    pub ended : state.line ≡ []
    pub first : IsFirstUnlawful entries at
    pub stands : slice_get entries at ≡ Some entry
    pub expects : Expects (before entries at) entry expected

  -- what a check that halted shows of such an entry: it has read that front
  pub record ShowsUnlawful (bytes : List ℕ) (at : ℕ) (new : Progress M) : Type 0 where
    pub entry : Entry M
    pub expected : Expected M
    pub is : IsUnlawfulJournal bytes at entry expected
    pub state : new.state ≡ is.state
    pub last : new.last ≡ Some entry
    pub shown : new.checker ≡ Err (record { at = at; expected = expected })

  -- a front of the bytes is read, and all its entries are lawful. The next byte is a fault, and this is the number of its line,
  -- modulo 2^64
  pub record IsFaultyJournal (bytes : List ℕ) (line : ℕ) (what : What) : Type 0 where
    pub front : List ℕ
    pub byte : ℕ
    pub rest : List ℕ
    pub whole : bytes ≡ front ++ byte ∷ rest
    pub state : State
    pub entries : List (Entry M)
    pub read : reading version meaning (waiting_at 0) front ≡ Ok (state, entries)
    pub lawful : Lawful (reverse entries)
    pub fault : reading version meaning (waiting_at 0) (front ++ byte ∷ []) ≡ Err what
    pub next_line : line ≡ (state.lines + 1) % 2 ^ 64

  -- a check that halted shows how far it was read and which entries are checked before such a fault
  pub record ShowsFault (bytes : List ℕ) (line : ℕ) (what : What) (shown : State) (checker : Found M) : Type 0 where
    pub is : IsFaultyJournal bytes line what
    pub state : shown ≡ is.state
    pub checked : checker ≡ Ok (reverse is.entries)

  -- a check that had no memory shows how far a front of the bytes was read. All its entries, or all but the last, are checked
  -- and lawful
  pub record ShowsFront (bytes : List ℕ) (shown : State) (checker : Found M) : Type 0 where
    pub front : List ℕ
    pub rest : List ℕ
    pub whole : bytes ≡ front ++ rest
    pub state : State
    pub done : List (Entry M)
    pub left : List (Entry M)
    pub few : length left ≤ 1
    pub read : reading version meaning (waiting_at 0) front ≡ Ok (state, done ++ left)
    pub lawful : Lawful (reverse done)
    pub same : shown ≡ state
    pub checked : checker ≡ Ok (reverse done)

  -- what a halt says of the bytes of a journal
  abbrev pub HaltTells : List ℕ → Progress M → Halt → Type 0
  HaltTells bytes new (halt.Unlawful at) = ShowsUnlawful bytes at new
  HaltTells bytes new (halt.Fault line what) = ShowsFault bytes line what new.state new.checker
  HaltTells bytes new halt.NoMemory = ShowsFront bytes new.state new.checker

  -- a check had no memory, or found an unlawful entry and had no memory for its line
  abbrev pub MayTellNone : List ℕ → Progress M → Type 0
  MayTellNone bytes new = ShowsFront bytes new.state new.checker ⊎ ((at : ℕ) × ShowsUnlawful bytes at new)

  -- the same of a stop, which has the entry's line
  abbrev pub StopTells : (M → List ℕ) → List ℕ → Progress M → Stop → Type 0
  StopTells text bytes new (stop.Unlawful at line) = (shows : ShowsUnlawful bytes at new) × (string_bytes line ≡ line_of text shows.entry)
  StopTells text bytes new (stop.Fault line what) = ShowsFault bytes line what new.state new.checker
  StopTells text bytes new stop.NoMemory = MayTellNone bytes new

  -- these bytes were read after any others, and all entries in them are lawful there
  abbrev pub Goes : Progress M → List ℕ → Progress M → Type 0
  Goes old bytes new = (before : List ℕ) → IsSoFar before old → IsSoFar (before ++ bytes) new

  -- a check halts in these bytes, after any others
  abbrev pub HaltsIn : Progress M → List ℕ → Progress M → Halt → Type 0
  HaltsIn old bytes new halted = (before : List ℕ) → IsSoFar before old → HaltTells (before ++ bytes) new halted

  -- the same of a stop
  abbrev pub StopsIn : (M → List ℕ) → Progress M → List ℕ → Progress M → Stop → Type 0
  StopsIn text old bytes new told = (before : List ℕ) → IsSoFar before old → StopTells text (before ++ bytes) new told

  -- the bytes are a whole journal of this many entries, and all are lawful
  pub record IsLawfulJournal (bytes : List ℕ) (count : ℕ) : Type 0 where
    pub state : State
    pub entries : List (Entry M)
    pub read : reading version meaning (waiting_at 0) bytes ≡ Ok (state, entries)
    pub whole : state.lines ≢ 0
    pub ended : end_of state ≡ Some count
    pub counted : count ≡ length entries
    pub lawful : Lawful (reverse entries)

  -- a board has made the calls of the whole entries in these bytes and cut its journal then, and these are their makers
  pub record IsRestored (bytes : List ℕ) (limit : ℕ) (restored : RestoredShown M) : Type 0 where
    pub state : State
    pub entries : List (Entry M)
    pub read : reading version meaning (waiting_at 0) bytes ≡ Ok (state, entries)
    pub lawful : Lawful (reverse entries)
    pub made : HasMade (reverse entries) limit restored.board
    pub makers : AreMakers (reverse entries) restored.makers
