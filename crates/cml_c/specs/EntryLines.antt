-- The lines of entries, as they are written into C's memory.
use Rattle.std.specs.Prelude.{ℕ, ◌≡◌, ◌+◌, ◌-◌, ◌<◌, ◌≤◌, ◌⊎◌, List, ◌++◌, length, take, drop, slice_get, Option, Some, None, ⊤}
use Rattle.std.specs.Fmt.{decimal}
use Rattle.std.specs.List.{flat_map}
use Rattle.cml_board.specs.{Entry, entries_in}
use Rattle.cml_journal.specs.{AreShort, bytes_text, line_of, with_line_end}
use Rattle.cml_journal.specs.Feeding.{most}
use Rattle.cml_room.specs.{RoomShown}
use Rattle.cml_c.specs.declared.code.Code.{Code}
use Rattle.cml_c.specs.declared.code.Code.TheVariants.{Done, NoSuch, NoMemory, Full, TooLong}
use Rattle.cml_c.specs.declared.entry_lines.Added.{Added}
use Rattle.cml_c.specs.declared.entry_lines.Stop.{Stop}
use Rattle.cml_c.specs.declared.entry_lines.Stop.TheVariants as stop
use Rattle.cml_c.specs.declared.owned.Owned.{Owned}
use Rattle.cml_c.specs.declared.owned.Owned.TheVariants.{Numbers, Bytes}
use Rattle.cml_c.specs.declared.owned.Resource.{Resource}
use Rattle.cml_c.specs.Codes.{number}
use Rattle.cml_c.specs.Entries.{IsJournal}
use Rattle.cml_c.specs.Handles.{OnRoom}

-- A text lies at a place of the buffer, and ends at that one. What is before and after it stays.
pub record Puts (text : List ℕ) (at : ℕ) (old new : List ℕ) (end : ℕ) : Type 0 where
  pub long : end ≡ at + length text
  pub within : end ≤ length old
  pub written : new ≡ take at old ++ text ++ drop end old

-- why a line isn't added after so many bytes of a buffer of this size: it doesn't fit, or no reading takes it
abbrev pub IsRefused : List ℕ → (at size : ℕ) → Stop → Type 0
IsRefused line at size stop.Full = size < at + length line
IsRefused line at size stop.TooLong = most + 1 < length line
IsRefused line at size stop.NoMemory = ⊥

module _ {M : Type 0} (text : M → List ℕ) where
  abbrev pub whole_line : Entry M → List ℕ
  whole_line entry = with_line_end (line_of text entry)

  abbrev pub lines_of : List (Entry M) → List ℕ
  lines_of entries = flat_map whole_line entries

  abbrev pub IsStopped : Entry M → (at size : ℕ) → Stop → Type 0
  IsStopped entry at size stop.Full = size < at + length (whole_line entry)
  IsStopped entry at size stop.TooLong = most < length (line_of text entry)
  IsStopped entry at size stop.NoMemory = ⊤

  -- all were added, or this entry is the first that wasn't
  abbrev pub StopsAt : List (Entry M) → (count at size : ℕ) → Option Stop → Type 0
  StopsAt entries count at size None = count ≡ length entries
  StopsAt entries count at size (Some stopped) =
      (entry : Entry M) × (slice_get entries count ≡ Some entry) × IsStopped entry at size stopped

  -- The buffer begins with the lines of the first entries, and a reading takes each. The bytes after them are as they were.
  pub record AddsLines (entries : List (Entry M)) (old new : List ℕ) (added : Added) : Type 0 where
    pub long : added.length ≡ length (lines_of (take added.count entries))
    pub within : added.length ≤ length old
    pub written : new ≡ lines_of (take added.count entries) ++ drop added.length old
    pub short : AreShort text (take added.count entries)
    pub stop : StopsAt entries added.count added.length (length old) added.stop

-- the code of why no more lines were added
abbrev pub told_stop : Option Stop → Code
told_stop None = Done
told_stop (Some stop.Full) = Full
told_stop (Some stop.TooLong) = TooLong
told_stop (Some stop.NoMemory) = NoMemory

-- the entries of a room from a position on
abbrev pub AreFrom : {M : Type 0} → ℕ → RoomShown M → List (Entry M) → Type 0
AreFrom {M} from room entries =
    (journal : List (Entry M)) × IsJournal room journal × (entries ≡ drop (from - entries_in room.board.past) journal)

-- Lines of the room's entries from a position on are added, and how many they are, and how many bytes, is written. If an entry of these
-- was cut away, nothing is.
pub record WritesLines {M : Type 0} (text : M → List ℕ) (from code : ℕ) (old new : List ℕ) (count size : ℕ) (before after : RoomShown M) : Type 0
  where
    pub room : after ≡ before
    pub lines : ((from < entries_in before.board.past) × (code ≡ number NoSuch) × (count ≡ 0) × (size ≡ 0) × (new ≡ old))
        ⊎ ((entries_in before.board.past ≤ from) × (entries : List (Entry M)) × AreFrom from before entries
        × (added : Added) × AddsLines text entries old new added
        × (code ≡ number (told_stop added.stop)) × (count ≡ added.count) × (size ≡ added.length))

-- nothing is written
abbrev pub WritesNone : List ℕ → List ℕ → (count count' size size' : ℕ) → Type 0
WritesNone old new count count' size size' = (new ≡ old) × (count' ≡ count) × (size' ≡ size)

-- the same of whichever room a handle leads to
abbrev pub WritesLinesOf : (from code : ℕ) → List ℕ → List ℕ → (count count' size size' : ℕ) → Owned → Owned → Type 0
WritesLinesOf from code old new count count' size size' (Numbers room) left = (resource : Resource ℕ) × (left ≡ Numbers resource)
    × OnRoom (WritesLines decimal from code old new count' size') (WritesNone old new count count' size size') code room resource
WritesLinesOf from code old new count count' size size' (Bytes room) left = (resource : Resource (List ℕ)) × (left ≡ Bytes resource)
    × OnRoom (WritesLines bytes_text from code old new count' size') (WritesNone old new count count' size size') code room resource
