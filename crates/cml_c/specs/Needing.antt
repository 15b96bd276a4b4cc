-- When a call in a room of bytes needs a block of memory, which keeps the message that the call gives.
use Rattle.std.specs.Prelude.{ℕ, ◌≡◌, ◌<◌, ◌≤◌, Bool, List, length, Option, Some, None, ⊤}
use Rattle.cml_board.specs.{owed_count, held_by, Fits, answer, HasRoom, Call, Entry, Reply}
use Rattle.cml_board.specs.Shown.{Shown}
use Rattle.cml_board.specs.declared.outcome.Response.{Response}
use Rattle.cml_board.specs.declared.call.Call.TheVariants.{Recv, Poll, Get, GetPoll, Take, TakePoll, Swap}
use Rattle.cml_board.specs.declared.entry.Reply.TheVariants.{Got}
use Rattle.cml_board.specs.declared.outcome.Response.TheVariants as response
use Rattle.cml_room.specs.{RoomShown}
use Rattle.cml_c.specs.Asking.{MayMake}

-- up to 78 bytes, which lie in C's struct
abbrev pub IsShort : List ℕ → Type 0
IsShort message = length message ≤ 78

-- the message that this call gives may need a block: one of a variable has more than 78 bytes, and of the next one of a mailbox or
-- a port the length isn't known before it is received
abbrev pub MayBeLong : Call (List ℕ) → List ℕ → Type 0
MayBeLong (Recv source) message = ⊤
MayBeLong (Poll source) message = ⊤
MayBeLong call message = 78 < length message

-- after this history the call is answered with such a message
pub record IsGiven (history : List (Entry (List ℕ))) (call : Call (List ℕ)) : Type 0 where
  pub message : List ℕ
  pub answer : answer history call ≡ Some (Got message)
  pub long : MayBeLong call message

-- the board takes the call and has room for its entry, and answers it with such a message
pub record WouldGive (board : Shown (List ℕ)) (call : Call (List ℕ)) : Type 0 where
  pub fits : Fits board.history call
  pub space : HasRoom board
  pub given : IsGiven board.history call

-- the call needs a block: the seat may make it, and the board would give such a message
pub record NeedsBlock (again : Bool) (seat : ℕ) (call : Call (List ℕ)) (room : RoomShown (List ℕ)) : Type 0 where
  pub may : MayMake again room seat call
  pub gives : WouldGive room.board call

-- a message waits, by the count of those that do
abbrev pub IsOwed : Option ℕ → Type 0
IsOwed None = ⊥
IsOwed (Some count) = 0 < count

-- a variable, by what is read of it, holds more than 78 bytes
abbrev pub HoldsLong : Option (Option (List ℕ)) → Type 0
HoldsLong (Some (Some message)) = 78 < length message
HoldsLong held = ⊥

-- by what a board's readers say of the call's object, it has such a message for the call
abbrev pub IsThere : List (Entry (List ℕ)) → Call (List ℕ) → Type 0
IsThere history (Recv source) = IsOwed (owed_count history source.0)
IsThere history (Poll source) = IsOwed (owed_count history source.0)
IsThere history (Get variable) = HoldsLong (held_by history variable.0)
IsThere history (GetPoll variable) = HoldsLong (held_by history variable.0)
IsThere history (Take variable) = HoldsLong (held_by history variable.0)
IsThere history (TakePoll variable) = HoldsLong (held_by history variable.0)
IsThere history (Swap variable message) = HoldsLong (held_by history variable.0)
IsThere history call = ⊥

-- what becomes of a call gives no message that needs a block
abbrev pub IsShortReply : Reply (List ℕ) → Type 0
IsShortReply (Got message) = IsShort message
IsShortReply reply = ⊤

abbrev pub IsShortResponse : Response (List ℕ) → Type 0
IsShortResponse (response.Reply reply) = IsShortReply reply
IsShortResponse (response.WouldWait back) = ⊤
IsShortResponse (response.Refused refusal back) = ⊤
