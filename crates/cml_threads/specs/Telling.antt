-- What a call on a switchboard returns.
use Rattle.std.specs.Prelude.{◌≡◌, Bool, true, Option, Some, Result, Ok, Err, ⊤}
use Rattle.cml_board.specs.{Want, want_in, Call, row_of, may_have, Reply, Refusal, Response}
use Rattle.cml_board.specs.declared.outcome.Outcome.{Outcome}
use Rattle.cml_board.specs.declared.outcome.Refusal.TheVariants.{NoSuch, WrongKind, JournalFull, NoMemory, Busy, Stalled, Unseen}
use Rattle.cml_board.specs.declared.outcome.Outcome.TheVariants as outcome
use Rattle.cml_board.specs.declared.outcome.Response.TheVariants as response
use Rattle.cml_threads.specs.Seating.{Sitting, raised}

-- the refusals with which a seat's call may fail, by what it waits for: with `Stalled` only if it may block
abbrev pub MayRefuse : Option Want → Refusal → Type 0
MayRefuse want Busy = ⊥
MayRefuse want Unseen = ⊥
MayRefuse want Stalled = (on : Want) × (want ≡ Some on)
MayRefuse want refusal = ⊤

-- the refusals with which opening a lane may fail
abbrev pub MayRefuseLane : Refusal → Type 0
MayRefuseLane NoSuch = ⊤
MayRefuseLane WrongKind = ⊤
MayRefuseLane NoMemory = ⊤
MayRefuseLane refusal = ⊥

-- those with which opening a feed may fail
abbrev pub MayRefuseFeed : Refusal → Type 0
MayRefuseFeed JournalFull = ⊤
MayRefuseFeed refusal = MayRefuseLane refusal

-- those with which draining or dropping a lane, or pumping a feed, may fail
abbrev pub MayRefuseDrain : Refusal → Type 0
MayRefuseDrain NoSuch = ⊤
MayRefuseDrain JournalFull = ⊤
MayRefuseDrain NoMemory = ⊤
MayRefuseDrain refusal = ⊥

-- those with which closing a lane may fail
abbrev pub MayRefuseClose : Refusal → Type 0
MayRefuseClose Unseen = ⊤
MayRefuseClose refusal = MayRefuseDrain refusal

module _ {M : Type 0} where
  -- the forms of reply that a call has, by its row in the table
  abbrev pub suits : Call M → Reply M → Bool
  suits call reply = may_have (row_of call) reply

  -- the call is answered, in a form that it has, and counted for its seat; or it is returned, and not counted
  abbrev pub Returns : Sitting → Sitting → Call M → Outcome M → Type 0
  Returns before after call (outcome.Answered answer) =
      (answer.call ≡ call) × (suits call answer.reply ≡ true) × (after ≡ raised before)
  Returns before after call (outcome.WouldWait back) = (back ≡ call) × (after ≡ before)
  Returns before after call (outcome.Refused refusal back) = MayRefuse (want_in call) refusal × (back ≡ call) × (after ≡ before)

  -- the same of a call whose reply alone is returned
  abbrev pub Responds : Sitting → Sitting → Call M → Response M → Type 0
  Responds before after call (response.Reply reply) = (suits call reply ≡ true) × (after ≡ raised before)
  Responds before after call (response.WouldWait back) = (back ≡ call) × (after ≡ before)
  Responds before after call (response.Refused refusal back) = MayRefuse (want_in call) refusal × (back ≡ call) × (after ≡ before)

  -- and of one that blocks until then
  abbrev pub Replies : Sitting → Sitting → Call M → Result (Reply M) (Refusal × Call M) → Type 0
  Replies before after call (Ok reply) = (suits call reply ≡ true) × (after ≡ raised before)
  Replies before after call (Err back) = MayRefuse (want_in call) back.0 × (back.1 ≡ call) × (after ≡ before)
