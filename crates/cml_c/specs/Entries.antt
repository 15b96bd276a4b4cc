-- An entry of the journal, as C is shown it.
use Rattle.std.specs.Prelude.{ℕ, ◌≡◌, ◌-◌, ◌<◌, ◌≤◌, ◌⊎◌, List, [], ◌∷◌, length, ◌++◌, reverse, slice_get, Option, Some, None, Box}
use Rattle.std.specs.Option.{option_map_or}
use Rattle.std.specs.declared.alloc.Global.{Global}
use Rattle.cml_board.specs.{Call, Entry, Reply, Who, object_in, message_of, row_of, entries_in}
use Rattle.cml_board.specs.declared.entry.Reply.TheVariants as reply
use Rattle.cml_board.specs.declared.entry.Who.TheVariants.{Seat, Lane, Feed}
use Rattle.cml_room.specs.{RoomShown}
use Rattle.cml_c.specs.declared.code.Code.TheVariants.{Done, NoSuch, NoMemory, OutOfBounds}
use Rattle.cml_c.specs.declared.entries.EntrySource.{EntrySource}
use Rattle.cml_c.specs.declared.entries.EntrySource.TheVariants as source
use Rattle.cml_c.specs.declared.entries.SeryugoCall.{SeryugoCall}
use Rattle.cml_c.specs.declared.entries.SeryugoEntry.{SeryugoEntry}
use Rattle.cml_c.specs.declared.entries.SeryugoMaker.{SeryugoMaker}
use Rattle.cml_c.specs.declared.entries.SeryugoReply.{SeryugoReply}
use Rattle.cml_c.specs.declared.owned.Owned.TheVariants as owned
use Rattle.cml_c.specs.declared.owned.Resource.TheVariants as resource
use Rattle.cml_c.specs.declared.owned.Owned.{Owned}
use Rattle.cml_c.specs.Codes.{number}
use Rattle.cml_c.specs.Handles.{OnBytes, OnJournal, OnNumbers, OnRoom}
use Rattle.cml_c.specs.declared.bytes_entries.SeryugoBytesEntry.{SeryugoBytesEntry}

abbrev pub maker_of : Who → SeryugoMaker
maker_of (Seat n) = record { kind = 0; number = n }
maker_of (Lane n) = record { kind = 1; number = n }
maker_of (Feed n) = record { kind = 2; number = n }

-- which call it is, by its number in the table, and its object's number or 0
abbrev pub call_kind : {M : Type 0} → Call M → ℕ
call_kind call = (row_of call).number

abbrev pub call_object : {M : Type 0} → Call M → ℕ
call_object call = option_map_or (λ name. name.0) (object_in call) 0

-- the same of a reply, with the name that it gives
abbrev pub reply_kind : {M : Type 0} → Reply M → ℕ
reply_kind reply.Done = 0
reply_kind (reply.Made name) = 1
reply_kind (reply.Got message) = 2
reply_kind reply.Nothing = 3
reply_kind reply.Put = 4
reply_kind reply.Closed = 5

abbrev pub reply_name : {M : Type 0} → Reply M → ℕ
reply_name reply.Done = 0
reply_name (reply.Made name) = name.0
reply_name (reply.Got message) = 0
reply_name reply.Nothing = 0
reply_name reply.Put = 0
reply_name reply.Closed = 0

abbrev pub reply_message : {M : Type 0} → Reply M → Option M
reply_message reply.Done = None
reply_message (reply.Made name) = None
reply_message (reply.Got message) = Some message
reply_message reply.Nothing = None
reply_message reply.Put = None
reply_message reply.Closed = None

-- a number, or 0
abbrev pub or_zero : Option ℕ → ℕ
or_zero (Some number) = number
or_zero None = 0

abbrev pub call_of : Call ℕ → SeryugoCall
call_of call = record { kind = call_kind call; object = call_object call; message = or_zero (message_of call) }

-- what a reply gives: a name, or a message
abbrev pub given_by : Reply ℕ → ℕ
given_by (reply.Made name) = name.0
given_by (reply.Got message) = message
given_by other = 0

abbrev pub reply_of : Reply ℕ → SeryugoReply
reply_of reply = record { kind = reply_kind reply; given = given_by reply }

abbrev pub flat : Entry ℕ → SeryugoEntry
flat entry = record { maker = maker_of entry.who; call = call_of entry.call; reply = reply_of entry.reply }

-- how many bytes a message has, or 0
abbrev pub count_of : Option (List ℕ) → ℕ
count_of (Some message) = length message
count_of None = 0

-- a handle to this entry is written, with all that isn't bytes, and how many these are
pub record IsShown (entry : Entry (List ℕ)) (to : SeryugoBytesEntry) : Type 0 where
  pub owner : Box (Entry (List ℕ)) Global
  pub owns : to.owner.owned ≡ Some (owned.Bytes (resource.Entry owner))
  pub shows : owner.value ≡ entry
  pub maker : to.maker ≡ maker_of entry.who
  pub call : to.call.kind ≡ call_kind entry.call
  pub object : to.call.object ≡ call_object entry.call
  pub sent : to.call.message.length ≡ count_of (message_of entry.call)
  pub reply : to.reply.kind ≡ reply_kind entry.reply
  pub name : to.reply.name ≡ reply_name entry.reply
  pub got : to.reply.message.length ≡ count_of (reply_message entry.reply)

-- an entry that was found is written; or there is none
abbrev pub Finds : Option (Entry ℕ) → ℕ → SeryugoEntry → SeryugoEntry → Type 0
Finds (Some entry) code before after = (code ≡ number Done) × (after ≡ flat entry)
Finds None code before after = (code ≡ number NoSuch) × (after ≡ before)

-- the same of bytes: it is handed over, or there is none, or there is no memory for it
abbrev pub FindsBytes : Option (Entry (List ℕ)) → ℕ → SeryugoBytesEntry → SeryugoBytesEntry → Type 0
FindsBytes (Some entry) code from to = ((code ≡ number Done) × IsShown entry to) ⊎ ((code ≡ number NoMemory) × (to ≡ from))
FindsBytes None code from to = (code ≡ number NoSuch) × (to ≡ from)

-- the journal, oldest first, is what was accepted since the last cut
abbrev pub IsJournal : {M : Type 0} → RoomShown M → List (Entry M) → Type 0
IsJournal room journal = reverse journal ++ room.board.past ≡ room.board.history

-- this is the entry of a position: that was cut away; or it is a place in the journal, which may have that many entries or not
abbrev pub IsAt : {M : Type 0} → ℕ → RoomShown M → Option (Entry M) → Type 0
IsAt {M} at room found =
    ((at < entries_in room.board.past) × (found ≡ None))
    ⊎ ((entries_in room.board.past ≤ at) × (journal : List (Entry M)) × IsJournal room journal
    × (found ≡ slice_get journal (at - entries_in room.board.past)))

-- it is looked for, and written or handed over if it is found, and the room is as it was
pub record FindsIn (at code : ℕ) (before after : SeryugoEntry) (old new : RoomShown ℕ) : Type 0 where
  pub room : new ≡ old
  pub found : Option (Entry ℕ)
  pub is : IsAt at old found
  pub finds : Finds found code before after

pub record FindsBytesIn (at code : ℕ) (from to : SeryugoBytesEntry) (old new : RoomShown (List ℕ)) : Type 0 where
  pub room : new ≡ old
  pub found : Option (Entry (List ℕ))
  pub is : IsAt at old found
  pub finds : FindsBytes found code from to

-- where an entry is looked for, in the order of the numbers
abbrev pub entry_sources : List EntrySource
entry_sources = source.Room ∷ source.Journal ∷ []

-- the same of the room or the taken journal that a handle leads to; or no source has such a number, and nothing is changed
abbrev pub FindsAt : Option EntrySource → ℕ → SeryugoEntry → SeryugoEntry → ℕ → Owned → Owned → Type 0
FindsAt (Some source.Room) at before after code old new = OnNumbers (OnRoom (FindsIn at code before after)) (after ≡ before) code old new
FindsAt (Some source.Journal) place before after code old new =
    OnNumbers (OnJournal (λ entries. Finds (slice_get entries place) code before after)) (after ≡ before) code old new
FindsAt None at before after code old new = (code ≡ number OutOfBounds) × (after ≡ before) × (new ≡ old)

abbrev pub FindsBytesAt : Option EntrySource → ℕ → SeryugoBytesEntry → SeryugoBytesEntry → ℕ → Owned → Owned → Type 0
FindsBytesAt (Some source.Room) at from to code old new = OnBytes (OnRoom (FindsBytesIn at code from to)) (to ≡ from) code old new
FindsBytesAt (Some source.Journal) place from to code old new =
    OnBytes (OnJournal (λ entries. FindsBytes (slice_get entries place) code from to)) (to ≡ from) code old new
FindsBytesAt None at from to code old new = (code ≡ number OutOfBounds) × (to ≡ from) × (new ≡ old)
