-- What a seat's call returns to C.
use Rattle.std.specs.Prelude.{ℕ, ◌≡◌, Bool, true, false, Option, Some}
use Rattle.cml_log.specs.{chunk_of}
use Rattle.cml_board.specs.{Call, Reply, want_in, Want}
use Rattle.cml_board.specs.declared.outcome.Outcome.{Outcome}
use Rattle.cml_board.specs.declared.entry.Reply.TheVariants as reply
use Rattle.cml_room.specs.{RoomShown, MayAsk, state_of, Asks, Turns, news_by, asked_by}
use Rattle.cml_room.specs.declared.state.State.TheVariants.{Parked}
use Rattle.cml_board.specs.declared.outcome.Outcome.TheVariants as outcome
use Rattle.cml_c.specs.declared.code.Code.{Code}
use Rattle.cml_c.specs.declared.code.Code.TheVariants.{Done, Nothing, Put, Closed, Parked}
use Rattle.cml_c.specs.declared.owned.Owned.{Owned}
use Rattle.cml_c.specs.Codes.{number, of_refusal}
use Rattle.cml_c.specs.Handles.{OnNumbers, OnRoom}

-- how many messages a room's chunks hold
abbrev pub chunk : ℕ
chunk = chunk_of 16

-- the code of a reply
abbrev pub told_reply : {M : Type 0} → Reply M → Code
told_reply reply.Done = Done
told_reply (reply.Made name) = Done
told_reply (reply.Got message) = Done
told_reply reply.Nothing = Nothing
told_reply reply.Put = Put
told_reply reply.Closed = Closed

-- the code of what becomes of a call
abbrev pub told_outcome : {M : Type 0} → Outcome M → Code
told_outcome (outcome.Answered answer) = told_reply answer.reply
told_outcome (outcome.WouldWait back) = Parked
told_outcome (outcome.Refused refusal back) = of_refusal refusal

-- what a number is then that takes a name that is given, or a message too
abbrev pub named_reply : {M : Type 0} → ℕ → Reply M → ℕ
named_reply before (reply.Made name) = name.0
named_reply before other = before

abbrev pub written_reply : ℕ → Reply ℕ → ℕ
written_reply before (reply.Made name) = name.0
written_reply before (reply.Got message) = message
written_reply before other = before

-- the same of what becomes of a call
abbrev pub named_outcome : {M : Type 0} → ℕ → Outcome M → ℕ
named_outcome before (outcome.Answered answer) = named_reply before answer.reply
named_outcome before (outcome.WouldWait back) = before
named_outcome before (outcome.Refused refusal back) = before

abbrev pub written_outcome : ℕ → Outcome ℕ → ℕ
written_outcome before (outcome.Answered answer) = written_reply before answer.reply
written_outcome before (outcome.WouldWait back) = before
written_outcome before (outcome.Refused refusal back) = before

-- the seat may make a call with this want for the first time, or again after it was parked
abbrev pub MayWant : {M : Type 0} → Bool → RoomShown M → ℕ → Option Want → Type 0
MayWant false room seat want = MayAsk room seat
MayWant true room seat want = (on : Want) × (want ≡ Some on) × (state_of room seat ≡ Some (Parked on))

abbrev pub MayMake : {M : Type 0} → Bool → RoomShown M → ℕ → Call M → Type 0
MayMake again room seat call = MayWant again room seat (want_in call)

-- what becomes of the call in the room, with the code that tells it, and what is given
pub record Makes {M : Type 0} (sure again : Bool) (seat : ℕ) (call : Call M) (code : ℕ) (Gives : Outcome M → Type 0)
    (old new : RoomShown M) : Type 0 where
  pub becomes : Outcome M
  pub asks : Asks chunk sure (MayMake again old seat call) old new seat call becomes
  pub turns : Turns seat (asked_by seat becomes) (news_by becomes) old new
  pub told : code ≡ number (told_outcome becomes)
  pub gives : Gives becomes

-- a call in a room of numbers, with the content before and after of the place where a number is written
abbrev pub Calls : Bool → ℕ → Call ℕ → Owned → Owned → ℕ → ℕ → ℕ → Type 0
Calls again seat call old new code before after =
    OnNumbers (OnRoom (Makes true again seat call code (λ becomes. after ≡ written_outcome before becomes))) (after ≡ before) code old new

-- the same of a call that a free seat makes, and that gives no number
abbrev pub CallsPlain : ℕ → Call ℕ → Owned → Owned → ℕ → Type 0
CallsPlain seat call old new code = (after : ℕ) × Calls false seat call old new code 0 after
