-- What a board shows to its callers, and what a call does.
use Rattle.std.specs.Prelude.{ℕ, ◌≡◌, ◌≢◌, ◌+◌, ◌<◌, ◌≤◌, Bool, Some, None, Result, Ok, Err, ⊤}
use Rattle.cml_calls.specs.{Give}
use Rattle.cml_board.specs.declared.call.Call.{Call}
use Rattle.cml_board.specs.declared.call.Name.{Name}
use Rattle.cml_board.specs.declared.entry.Who.{Who}
use Rattle.cml_board.specs.declared.entry.Reply.{Reply}
use Rattle.cml_board.specs.declared.entry.Reply.TheVariants.{Done}
use Rattle.cml_board.specs.declared.outcome.Refusal.{Refusal}
use Rattle.cml_board.specs.declared.outcome.Refusal.TheVariants.{Gone, Busy, NoSuch, WrongKind, JournalFull, Stalled, NoMemory, Unseen}
use Rattle.cml_board.specs.declared.outcome.Outcome.{Outcome}
use Rattle.cml_board.specs.declared.outcome.Outcome.TheVariants.{Answered, WouldWait, Refused}
use Rattle.cml_board.specs.declared.outcome.Response.{Response}
use Rattle.cml_board.specs.declared.outcome.Response.TheVariants as response
use Rattle.cml_board.specs.Parts.{given_call}
use Rattle.cml_board.specs.Shown.{Shown, full_at}
use Rattle.cml_board.specs.Sparing.{IsSpared}
use Rattle.cml_board.specs.History.{entries_in, with_entry, IsMade, IsTaken, Fits, answer}

module _ {M : Type 0} where
  abbrev pub HasRoom : Shown M → Type 0
  HasRoom board = entries_in board.history < full_at board

  -- when a call fails with each refusal. They are tested in this order, want of memory last. A call that needs only reserved
  -- memory never fails for want of memory. A board never fails with the refusals of the layers above it
  abbrev pub Refuses : ℕ → Bool → Shown M → Call M → Refusal → Type 0
  Refuses chunk sure board call NoSuch = ¬ (IsMade board.history call)
  Refuses chunk sure board call WrongKind = IsMade board.history call × ¬ (IsTaken board.history call)
  Refuses chunk sure board call JournalFull = Fits board.history call × (entries_in board.history ≡ full_at board)
  Refuses chunk sure board call NoMemory = Fits board.history call × HasRoom board × (answer board.history call ≢ None)
      × ¬ (IsSpared chunk sure board call)
  Refuses chunk sure board call Gone = ⊥
  Refuses chunk sure board call Busy = ⊥
  Refuses chunk sure board call Stalled = ⊥
  Refuses chunk sure board call Unseen = ⊥

  -- the board is as it was, and no reserved memory is lost
  pub record IsAsBefore (old new : Shown M) : Type 0 where
    pub history : new.history ≡ old.history
    pub past : new.past ≡ old.past
    pub limit : new.limit ≡ old.limit
    pub objects : new.objects ≡ old.objects
    pub reserved : old.reserved ≤ new.reserved

  -- the board has one more entry and the same limit, and lost reserved memory for at most one entry
  pub record AddsEntry (old new : Shown M) (who : Who) (call : Call M) (reply : Reply M) : Type 0 where
    pub history : new.history ≡ with_entry old.history (record { who = who; call = call; reply = reply })
    pub past : new.past ≡ old.past
    pub limit : new.limit ≡ old.limit
    pub reserved : old.reserved ≤ new.reserved + 1

  -- the whole journal was cut away. All that the history says is unchanged, and so are the limit and the objects. How much
  -- memory is reserved then is left open
  pub record Cuts (old new : Shown M) : Type 0 where
    pub history : new.history ≡ old.history
    pub past : new.past ≡ old.history
    pub limit : new.limit ≡ old.limit
    pub objects : new.objects ≡ old.objects

  -- what a call does that can fail only for want of memory: it adds just its entry; or it would wait, or needs more memory
  -- than is reserved, and then changes nothing and returns the call
  abbrev pub Performs : ℕ → Bool → Shown M → Shown M → Who → Call M → Response M → Type 0
  Performs chunk sure old new who call (response.Reply reply) = (answer old.history call ≡ Some reply) × AddsEntry old new who call reply
  Performs chunk sure old new who call (response.WouldWait back) =
      (answer old.history call ≡ None) × (back ≡ call) × IsAsBefore old new
  Performs chunk sure old new who call (response.Refused refusal back) =
      (refusal ≡ NoMemory) × (answer old.history call ≢ None) × ¬ (IsSpared chunk sure old call) × (back ≡ call) × IsAsBefore old new

  -- the response to a call that gives an object a message and is answered where there is memory
  abbrev pub given_response : Give → Name → Result ⊤ M → Response M
  given_response give name (Ok done) = response.Reply Done
  given_response give name (Err message) = response.Refused NoMemory (given_call give name message)

  -- the outcome that says the same as a response to this call. An answer has the call beside its reply, and the position of
  -- its entry, which is how many entries there were before
  abbrev pub outcome_of : ℕ → Call M → Response M → Outcome M
  outcome_of entries call (response.Reply reply) = Answered (record { call = call; reply = reply; at = entries })
  outcome_of entries call (response.WouldWait back) = WouldWait back
  outcome_of entries call (response.Refused refusal back) = Refused refusal back

  -- what a call does: an answered one adds just its entry, and every other changes nothing and returns the call
  abbrev pub Applies : ℕ → Bool → Shown M → Shown M → Who → Call M → Outcome M → Type 0
  Applies chunk sure old new who call (Refused refusal back) = Refuses chunk sure old call refusal × (back ≡ call) × IsAsBefore old new
  Applies chunk sure old new who call (WouldWait back) =
      Fits old.history call × HasRoom old × (answer old.history call ≡ None) × (back ≡ call) × IsAsBefore old new
  Applies chunk sure old new who call (Answered a) =
      Fits old.history call × HasRoom old × (answer old.history call ≡ Some a.reply)
      × (a.call ≡ call) × (a.at ≡ entries_in old.history) × AddsEntry old new who call a.reply
