-- What C gets of a journal whose text is read back.
use Rattle.std.specs.Prelude.{ℕ, ◌≡◌, ◌⊎◌, ◌↔◌, List, [], ◌∷◌, ◌++◌, Option, Some, None, ⊤}
use Rattle.cml_board.specs.{count_of}
use Rattle.cml_journal.specs.{Halt, Progress, Unended, What, IsSoFar, HaltTells, IsLawfulJournal, unended, message_of_word, number_of}
use Rattle.cml_journal.specs.declared.fault.Unended.TheVariants as unended
use Rattle.cml_journal.specs.declared.fault.What.TheVariants as what
use Rattle.cml_journal.specs.declared.stop.Halt.TheVariants as halt
use Rattle.cml_c.specs.declared.code.Code.{Code}
use Rattle.cml_c.specs.declared.code.Code.TheVariants.{Done, Nothing, NoMemory, OutOfBounds, Unlawful, Fault, Torn, TextOpen, NoJournal}
use Rattle.cml_c.specs.declared.handle.Slot.{Slot}
use Rattle.cml_c.specs.declared.message_kind.MessageKind.{MessageKind}
use Rattle.cml_c.specs.declared.message_kind.MessageKind.TheVariants as messages
use Rattle.cml_c.specs.declared.owned.Owned.{Owned}
use Rattle.cml_c.specs.declared.owned.Owned.TheVariants.{Numbers, Bytes}
use Rattle.cml_c.specs.declared.owned.Resource.{Resource}
use Rattle.cml_c.specs.declared.owned.Resource.TheVariants.{JournalCheck}
use Rattle.cml_c.specs.declared.read_journals.ReadingState.{ReadingState}
use Rattle.cml_c.specs.declared.read_journals.ReadingState.TheVariants as wanted
use Rattle.cml_c.specs.Codes.{number}
use Rattle.cml_c.specs.Handles.{OnReading}
use Rattle.cml_c.specs.Opening.{OpensNothing, WritesNew}

-- the code of what a reading stopped by
abbrev pub told_halt : Halt → Code
told_halt (halt.Unlawful at) = Unlawful
told_halt (halt.Fault line what) = Fault
told_halt halt.NoMemory = NoMemory

-- a handle to a reading of nothing is written; or there is no memory, and the slot is as it was
abbrev pub OpensAReading : {M : Type 0} → ℕ → (List ℕ → Option M) → (Resource M → Owned) → ℕ → Slot → Slot → Type 0
OpensAReading version meaning wrap told old new =
    WritesNew (IsSoFar version meaning []) (λ reading. wrap (JournalCheck reading)) told new ⊎ ((told ≡ number NoMemory) × (new ≡ old))

abbrev pub OpensNumbers : ℕ → Slot → Slot → Type 0
OpensNumbers = OpensAReading 1 number_of Numbers

abbrev pub OpensBytes : ℕ → Slot → Slot → Type 0
OpensBytes = OpensAReading 2 message_of_word Bytes

-- the same by the kind of the messages
abbrev pub OpensReadingOf : Option MessageKind → ℕ → Slot → Slot → Type 0
OpensReadingOf (Some messages.Numbers) told old new = OpensNumbers told old new
OpensReadingOf (Some messages.Bytes) told old new = OpensBytes told old new
OpensReadingOf None told old new = OpensNothing told old new

-- the code of a reading that goes on, or has stopped
abbrev pub told_so_far : Option Halt → Code
told_so_far None = Done
told_so_far (Some halted) = told_halt halted

-- what is known of the bytes that a reading took: all entries in them are lawful, or what it stopped by says which fault they have
abbrev pub IsReadTo : {M : Type 0} → ℕ → (List ℕ → Option M) → List ℕ → Progress M → Option Halt → Type 0
IsReadTo version meaning bytes progress None = IsSoFar version meaning bytes progress
IsReadTo version meaning bytes progress (Some halted) = HaltTells version meaning bytes progress halted

-- these bytes are read after any others; a reading that had stopped stays as it was
pub record Takes {M : Type 0} (version : ℕ) (meaning : List ℕ → Option M) (bytes : List ℕ) (code : ℕ) (old new : Progress M) : Type 0 where
  pub told : code ≡ number (told_so_far new.halt)
  pub read : (before : List ℕ) → IsSoFar version meaning before old → IsReadTo version meaning (before ++ bytes) new new.halt
  pub spent : (halted : Halt) → old.halt ≡ Some halted → new ≡ old

-- the same of whichever reading a handle leads to
abbrev pub TakesPart : List ℕ → ℕ → Owned → Owned → Type 0
TakesPart bytes code (Numbers old) new = (left : Resource ℕ) × (new ≡ Numbers left)
    × OnReading (Takes 1 number_of bytes code) ⊤ code old left
TakesPart bytes code (Bytes old) new = (left : Resource (List ℕ)) × (new ≡ Bytes left)
    × OnReading (Takes 2 message_of_word bytes code) ⊤ code old left

-- how many entries are lawful, how many lines have ended, and how many bytes may be kept of the text
abbrev pub entries_read : {M : Type 0} → Progress M → ℕ
entries_read progress = count_of progress.checker

abbrev pub lines_read : {M : Type 0} → Progress M → ℕ
lines_read progress = progress.state.lines

abbrev pub bytes_kept : {M : Type 0} → Progress M → ℕ
bytes_kept progress = progress.state.kept

-- this is written, and the reading is as it was
pub record Tells {M : Type 0} (what : Progress M → ℕ) (code after : ℕ) (old new : Progress M) : Type 0 where
  pub reading : new ≡ old
  pub told : code ≡ number Done
  pub written : after ≡ what old

-- the code of how a text ends
abbrev pub told_unended : Option Unended → Code
told_unended None = Done
told_unended (Some (unended.Open lines)) = TextOpen
told_unended (Some (unended.Torn lines)) = Torn
told_unended (Some unended.NoJournal) = NoJournal

-- the same by what the reading stopped by, if it has stopped
abbrev pub told_end : Option Halt → Option Unended → Code
told_end (Some halted) ends = told_halt halted
told_end None ends = told_unended ends

-- the reading is as it was, and the code says whether the bytes that it took are a whole lawful journal, or what it stopped by
pub record EndsSo {M : Type 0} (version : ℕ) (meaning : List ℕ → Option M) (code : ℕ) (old new : Progress M) : Type 0 where
  pub reading : new ≡ old
  pub told : code ≡ number (told_end old.halt (unended version old.state))
  pub whole : (bytes : List ℕ) → IsSoFar version meaning bytes old
      → (code ≡ number Done) ↔ IsLawfulJournal version meaning bytes (count_of old.checker)

-- what is read off a reading, in the order of the numbers
abbrev pub reading_states : List ReadingState
reading_states = wanted.Entries ∷ wanted.Lines ∷ wanted.End ∷ wanted.Kept ∷ wanted.Fault ∷ []

-- a fault's number
abbrev pub number_of_fault : What → ℕ
number_of_fault what.Short = 0
number_of_fault what.UnknownWord = 1
number_of_fault what.NoColon = 2
number_of_fault what.BadNumber = 3
number_of_fault what.BadMessage = 4
number_of_fault what.WrongReply = 5
number_of_fault what.BadBytes = 6
number_of_fault what.NoHeader = 7
number_of_fault what.OtherVersion = 8
number_of_fault what.OtherType = 9
number_of_fault what.Gap = 10
number_of_fault what.WrongEnd = 11
number_of_fault what.WrongSum = 12
number_of_fault what.TooMany = 13
number_of_fault what.TooLong = 14

-- the number of the fault that a reading stopped by, if it stopped by one
abbrev pub fault_in : Option Halt → Option ℕ
fault_in None = None
fault_in (Some (halt.Unlawful at)) = None
fault_in (Some (halt.Fault line what)) = Some (number_of_fault what)
fault_in (Some halt.NoMemory) = None

-- it is written, or nothing is
abbrev pub IsNumbered : Option ℕ → (before after code : ℕ) → Type 0
IsNumbered (Some fault) before after code = (code ≡ number Done) × (after ≡ fault)
IsNumbered None before after code = (code ≡ number Nothing) × (after ≡ before)

abbrev pub TellsFault : {M : Type 0} → (before after code : ℕ) → Progress M → Progress M → Type 0
TellsFault before after code old new = (new ≡ old) × IsNumbered (fault_in old.halt) before after code

-- this of a reading is told: a count, which is written, or how its text ends
abbrev pub IsTold : {M : Type 0} → ℕ → (List ℕ → Option M) → ReadingState → ℕ → ℕ → ℕ → Progress M → Progress M → Type 0
IsTold version meaning wanted.Entries before after code old new = Tells entries_read code after old new
IsTold version meaning wanted.Lines before after code old new = Tells lines_read code after old new
IsTold version meaning wanted.End before after code old new = EndsSo version meaning code old new × (after ≡ before)
IsTold version meaning wanted.Kept before after code old new = Tells bytes_kept code after old new
IsTold version meaning wanted.Fault before after code old new = TellsFault before after code old new

-- the same of whichever reading a handle leads to; or no state has such a number, and nothing is changed
abbrev pub TellsThis : ReadingState → ℕ → ℕ → ℕ → Owned → Owned → Type 0
TellsThis what before after code (Numbers old) new = (left : Resource ℕ) × (new ≡ Numbers left)
    × OnReading (IsTold 1 number_of what before after code) (after ≡ before) code old left
TellsThis what before after code (Bytes old) new = (left : Resource (List ℕ)) × (new ≡ Bytes left)
    × OnReading (IsTold 2 message_of_word what before after code) (after ≡ before) code old left

abbrev pub TellsState : Option ReadingState → ℕ → ℕ → ℕ → Owned → Owned → Type 0
TellsState (Some what) before after code old new = TellsThis what before after code old new
TellsState None before after code old new = (code ≡ number OutOfBounds) × (after ≡ before) × (new ≡ old)
