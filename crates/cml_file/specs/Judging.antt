-- What is kept of a file's text, and why it is refused.
use Rattle.std.specs.Prelude.{◌≡◌, ◌⊎◌, ℕ, ◌==◌, if◌then◌else◌, ◌<◌, List, [], length, false, Option, Some, None, Ok, ⊤}
use Rattle.cml_board.specs.{Entry, Expected}
use Rattle.cml_journal.specs.{Halt, IsFaultyJournal, IsUnlawfulJournal, State, Sum, Unended, What, last_sum, printed, reading}
use Rattle.cml_journal.specs.{unended, waiting_at}
use Rattle.cml_journal.specs.declared.fault.Unended.TheVariants.{Open, Torn, NoJournal as none}
use Rattle.cml_journal.specs.declared.fault.What.TheVariants as what
use Rattle.cml_journal.specs.declared.stop.Halt.TheVariants as halt
use Rattle.cml_store.specs.Texts.{is_front_text}
use Rattle.cml_file.specs.declared.judging.More.{More}
use Rattle.cml_file.specs.declared.judging.More.TheVariants.{Entries, Plain, Sealed}
use Rattle.cml_file.specs.declared.refused.Refused.{Refused}
use Rattle.cml_file.specs.declared.refused.Refused.TheVariants.{NoJournal, OtherVersion, OtherMessages, BeginsLater, Changed}
use Rattle.cml_file.specs.declared.refused.Refused.TheVariants.{Unlawful, NoMemory}

-- why a text is refused in which a check halts so
abbrev pub IsCause : Halt → Refused → Type 0
IsCause halt.NoMemory NoMemory = ⊤
IsCause (halt.Unlawful at) (Unlawful position) = position ≡ at
IsCause (halt.Fault line fault) NoJournal = line ≡ 1
IsCause (halt.Fault line fault) OtherVersion = (line ≡ 1) × (fault ≡ what.OtherVersion)
IsCause (halt.Fault line fault) OtherMessages = (line ≡ 1) × (fault ≡ what.OtherType)
IsCause (halt.Fault line fault) BeginsLater = (line ≡ 2) × (fault ≡ what.Gap)
IsCause (halt.Fault line fault) (Changed number told) = (number ≡ line) × (told ≡ fault)
IsCause halted told = ⊥

-- the piece that follows one with this sum, if that is sealed
abbrev pub piece_after : Option Sum → More
piece_after None = Plain
piece_after (Some sum) = Sealed sum

-- what follows a text that ends so, whose last piece has this sum if it is sealed
abbrev pub next_of : Option Unended → Option Sum → More
next_of None sum = piece_after sum
next_of (Some (Torn lines)) sum = if lines == 0 then Plain else Entries
next_of (Some (Open lines)) sum = Entries
next_of (Some none) sum = Entries

module _ {M : Type 0} (version : ℕ) (meaning : List ℕ → Option M) where
  -- a reading stops so in this text
  abbrev pub Stops : List ℕ → Refused → Type 0
  Stops text NoJournal = (fault : What) × IsFaultyJournal version meaning text 1 fault
  Stops text OtherVersion = IsFaultyJournal version meaning text 1 what.OtherVersion
  Stops text OtherMessages = IsFaultyJournal version meaning text 1 what.OtherType
  Stops text BeginsLater = IsFaultyJournal version meaning text 2 what.Gap
  Stops text (Changed line fault) = IsFaultyJournal version meaning text line fault
  Stops text (Unlawful at) = (entry : Entry M) × (expected : Expected M) × IsUnlawfulJournal version meaning text at entry expected
  Stops text NoMemory = ⊤

  -- a file with these bytes is refused: a reading stops in its text, which is no journal or has zeros in place of a header
  abbrev pub Refuses : List ℕ → Refused → Type 0
  Refuses bytes reason = Stops (printed bytes) reason
      ⊎ ((reason ≡ NoJournal) × (is_front_text version meaning (printed bytes) ≡ false))
      ⊎ ((reason ≡ NoJournal) × (printed bytes ≡ []) × (10 < length bytes))

  -- a text that is kept has so many entries, and this follows it
  pub record IsNext (text : List ℕ) (count : ℕ) (next : More) : Type 0 where
    pub state : State
    pub entries : List (Entry M)
    pub read : reading version meaning (waiting_at 0) text ≡ Ok (state, entries)
    pub counted : count ≡ length entries
    pub is : next ≡ next_of (unended version state) (last_sum state)
