-- What a call in a room of bytes returns to C, and the messages that it hands over.
use Rattle.std.specs.Prelude.{ℕ, ◌≡◌, ◌<◌, ◌^◌, ◌⊎◌, Bool, true, false, List, [], length, take, Option, Some, None, ⊤}
use Rattle.cml_calls.specs.{IsTooLong}
use Rattle.cml_board.specs.{Call, Reply, has_message}
use Rattle.cml_board.specs.declared.outcome.Outcome.{Outcome}
use Rattle.cml_board.specs.declared.entry.Reply.TheVariants as reply
use Rattle.cml_room.specs.{RoomShown}
use Rattle.cml_board.specs.declared.outcome.Outcome.TheVariants as outcome
use Rattle.cml_c.specs.declared.code.Code.TheVariants.{Done, Nothing, NoSuch, NoMemory, OutOfBounds}
use Rattle.cml_c.specs.declared.owned.Owned.{Owned}
use Rattle.cml_c.specs.declared.messages.SeryugoBytes.{SeryugoBytes}
use Rattle.cml_c.specs.Codes.{number}
use Rattle.cml_c.specs.Handles.{OnBytes, OnRoom}
use Rattle.cml_c.specs.Asking.{MayMake, Makes, named_outcome}
use Rattle.cml_c.specs.Needing.{NeedsBlock, IsShort}

-- up to 78 bytes lie in the struct
abbrev pub LiesIn : List ℕ → SeryugoBytes → Type 0
LiesIn message to = IsShort message × (take (length message) to.in_place ≡ message)

-- more are kept by what C has
abbrev pub IsKept : List ℕ → SeryugoBytes → Type 0
IsKept message to = (78 < length message) × (to.owner.kept ≡ Some (record { bytes = Some message }))

-- this message is handed over, with how many bytes it has
pub record IsHanded (message : List ℕ) (to : SeryugoBytes) : Type 0 where
  pub counted : to.length ≡ length message
  pub given : LiesIn message to ⊎ IsKept message to

-- the message of the reply is handed over, if it has one; else what stood there stays
abbrev pub HandsReply : SeryugoBytes → SeryugoBytes → Reply (List ℕ) → Type 0
HandsReply from to (reply.Got message) = IsHanded message to
HandsReply from to other = to ≡ from

abbrev pub HandsOutcome : SeryugoBytes → SeryugoBytes → Outcome (List ℕ) → Type 0
HandsOutcome from to (outcome.Answered answer) = HandsReply from to answer.reply
HandsOutcome from to (outcome.WouldWait back) = to ≡ from
HandsOutcome from to (outcome.Refused refusal back) = to ≡ from

-- a share of what is held is handed over; or it has more than 78 bytes, and there is no memory for it
abbrev pub HandsShare : List ℕ → ℕ → SeryugoBytes → SeryugoBytes → Type 0
HandsShare held code from to = ((code ≡ number Done) × IsHanded held to) ⊎ ((code ≡ number NoMemory) × (78 < length held) × (to ≡ from))

-- the same of a variable, which may be empty, or not be there
abbrev pub HandsHeld : Option (Option (List ℕ)) → ℕ → SeryugoBytes → SeryugoBytes → Type 0
HandsHeld (Some (Some held)) code from to = HandsShare held code from to
HandsHeld (Some None) code from to = (code ≡ number Nothing) × (to ≡ from)
HandsHeld None code from to = (code ≡ number NoSuch) × (to ≡ from)

-- the bytes were not copied: they are too many, or there is no memory for them
abbrev pub NotCopied : List ℕ → ℕ → Type 0
NotCopied bytes code = ((code ≡ number NoMemory) × (length bytes < 2 ^ 32)) ⊎ ((code ≡ number OutOfBounds) × IsTooLong bytes)

-- why a call that the seat may make isn't made: it needs a block, and there is no memory for it; or what it sends isn't copied
abbrev pub LacksMemory : Bool → ℕ → List ℕ → Call (List ℕ) → ℕ → RoomShown (List ℕ) → Type 0
LacksMemory again seat sent call code room =
    ((code ≡ number NoMemory) × NeedsBlock again seat call room)
    ⊎ ((has_message call ≡ true) × MayMake again room seat call × NotCopied sent code)

-- a call with a copy of these bytes is made, and this is given; or it isn't, and then nothing is changed
pub record MakesBytes (again : Bool) (seat : ℕ) (sent : List ℕ) (call : Call (List ℕ)) (code : ℕ) (Gives : Outcome (List ℕ) → Type 0)
    (same : Type 0) (old new : RoomShown (List ℕ)) : Type 0 where
  pub becomes : Makes false again seat call code Gives old new ⊎ (LacksMemory again seat sent call code old × same × (new ≡ old))

-- the name that the call gives is written, and the message is handed over
pub record GivesBytes (before after : ℕ) (from to : SeryugoBytes) (becomes : Outcome (List ℕ)) : Type 0 where
  pub name : after ≡ named_outcome before becomes
  pub message : HandsOutcome from to becomes

-- a call that sends nothing, in a room of bytes, with the content before and after of the places where a name and a message are written
abbrev pub CallsBytes : Bool → ℕ → Call (List ℕ) → Owned → Owned → ℕ → ℕ → ℕ → SeryugoBytes → SeryugoBytes → Type 0
CallsBytes again seat call old new code before after from to = OnBytes
    (OnRoom (MakesBytes again seat [] call code (GivesBytes before after from to) ((after ≡ before) × (to ≡ from))))
    ((after ≡ before) × (to ≡ from)) code old new

-- the same of a call that gives no name
abbrev pub CallsNameless : Bool → ℕ → Call (List ℕ) → Owned → Owned → ℕ → SeryugoBytes → SeryugoBytes → Type 0
CallsNameless again seat call old new code from to = (after : ℕ) × CallsBytes again seat call old new code 0 after from to

-- a call that a free seat makes, that sends a copy of these bytes and gives nothing
abbrev pub SendsBytes : ℕ → List ℕ → Call (List ℕ) → Owned → Owned → ℕ → Type 0
SendsBytes seat sent call old new code = OnBytes (OnRoom (MakesBytes false seat sent call code (λ becomes. ⊤) ⊤)) ⊤ code old new
