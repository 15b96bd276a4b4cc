-- What C reads of a room.
use Rattle.std.specs.Prelude.{ℕ, ◌≡◌, ◌⊎◌, Bool, true, false, List, [], ◌∷◌, Option, Some, None, option_map}
use Rattle.cml_calls.specs.{Kind}
use Rattle.cml_calls.specs.declared.kind.Kind.TheVariants as kind
use Rattle.cml_board.specs.{Name, entries_in, kind_of, full_at, HasRoom, sent_count, got_count, owed_count, first_of, kept_count}
use Rattle.cml_board.specs.{channel_of, start_of, port_is_open, held_by}
use Rattle.cml_room.specs.{RoomShown}
use Rattle.cml_c.specs.declared.code.Code.{Code}
use Rattle.cml_c.specs.declared.code.Code.TheVariants.{Done, Nothing, NoSuch, JournalFull, OutOfBounds}
use Rattle.cml_c.specs.declared.owned.Owned.{Owned}
use Rattle.cml_c.specs.Codes.{number}
use Rattle.cml_c.specs.declared.readers.Reader.{Reader}
use Rattle.cml_c.specs.declared.readers.Reader.TheVariants as reader
use Rattle.cml_c.specs.Handles.{OnAnyMessages, OnRoom}
use Rattle.cml_c.specs.declared.messages.SeryugoBytes.{SeryugoBytes}
use Rattle.cml_c.specs.Messages.{HandsHeld}
use Rattle.cml_c.specs.Asking.{chunk}

-- the code of a number that was found, or of none, with the content before and after of the place where it is written
abbrev pub told_found : Option ℕ → Code
told_found (Some found) = Done
told_found None = NoSuch

abbrev pub written_found : ℕ → Option ℕ → ℕ
written_found before (Some found) = found
written_found before None = before

-- what tells an object's kind
abbrev pub number_of_kind : Kind → ℕ
number_of_kind kind.Mailbox = 0
number_of_kind kind.Channel = 1
number_of_kind kind.Port = 2
number_of_kind kind.IVar = 3
number_of_kind kind.MVar = 4

-- the number of a name
abbrev pub bare : Name → ℕ
bare name = name.0

-- 1 if it is so, and else 0
abbrev pub one_if : Bool → ℕ
one_if true = 1
one_if false = 0

-- the readers of an object or of the journal, in the order of their numbers
abbrev pub readers : Name → List Reader
readers object = reader.Sent object ∷ reader.Got object ∷ reader.Owed object ∷ reader.Kept object ∷ reader.First object
    ∷ reader.Kind object ∷ reader.Channel object ∷ reader.Start object ∷ reader.IsOpen object ∷ reader.Entries ∷ reader.CutAt
    ∷ reader.Limit ∷ []

-- what a room has of this
abbrev pub found_in : {M : Type 0} → Reader → RoomShown M → Option ℕ
found_in (reader.Sent object) room = sent_count room.board.history object.0
found_in (reader.Got object) room = got_count room.board.history object.0
found_in (reader.Owed object) room = owed_count room.board.history object.0
found_in (reader.Kept object) room = kept_count chunk room.board.history object.0
found_in (reader.First object) room = first_of chunk room.board.history object.0
found_in (reader.Kind object) room = option_map number_of_kind (kind_of room.board.history object.0)
found_in (reader.Channel port) room = option_map bare (channel_of room.board.history port.0)
found_in (reader.Start port) room = start_of room.board.history port.0
found_in (reader.IsOpen port) room = option_map one_if (port_is_open room.board.history port.0)
found_in reader.Entries room = Some (entries_in room.board.history)
found_in reader.CutAt room = Some (entries_in room.board.past)
found_in reader.Limit room = Some room.board.limit

-- this of the room is written, and the room is as it was
pub record Reads {M : Type 0} (reader : Reader) (code before after : ℕ) (old new : RoomShown M) : Type 0 where
  pub room : new ≡ old
  pub told : code ≡ number (told_found (found_in reader old))
  pub written : after ≡ written_found before (found_in reader old)

-- the same of the room that a handle leads to; or no reader has such a number, and nothing is changed
abbrev pub ReadsOn : Option Reader → Owned → Owned → ℕ → ℕ → ℕ → Type 0
ReadsOn (Some reader) old new code before after =
    OnAnyMessages (λ M sure. OnRoom (Reads reader code before after)) (after ≡ before) code old new
ReadsOn None old new code before after = (code ≡ number OutOfBounds) × (after ≡ before) × (new ≡ old)

-- what a variable holds
abbrev pub told_held : Option (Option ℕ) → Code
told_held (Some (Some message)) = Done
told_held (Some None) = Nothing
told_held None = NoSuch

abbrev pub written_held : ℕ → Option (Option ℕ) → ℕ
written_held before (Some (Some message)) = message
written_held before (Some None) = before
written_held before None = before

pub record Holds (variable code before after : ℕ) (old new : RoomShown ℕ) : Type 0 where
  pub room : new ≡ old
  pub told : code ≡ number (told_held (held_by old.board.history variable))
  pub written : after ≡ written_held before (held_by old.board.history variable)

-- the same of bytes, which are handed over
abbrev pub HoldsBytes : ℕ → ℕ → SeryugoBytes → SeryugoBytes → RoomShown (List ℕ) → RoomShown (List ℕ) → Type 0
HoldsBytes variable code from to old new = (new ≡ old) × HandsHeld (held_by old.board.history variable) code from to

-- whether the journal takes more entries
abbrev pub TellsFull : {M : Type 0} → ℕ → RoomShown M → RoomShown M → Type 0
TellsFull code old new = (new ≡ old)
    × ((code ≡ number Done × HasRoom old.board) ⊎ (code ≡ number JournalFull × (entries_in old.board.history ≡ full_at old.board)))
