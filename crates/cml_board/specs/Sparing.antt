-- When a call needs no memory but what was reserved.
use Rattle.std.specs.Prelude.{ℕ, ◌≡◌, ◌<◌, ◌==◌, ◌-◌, ◌%◌, Bool, true, false, not, ◌||◌, List, length, Option, Some}
use Rattle.cml_board.specs.declared.call.Call.{Call}
use Rattle.cml_board.specs.declared.call.Call.TheVariants.{MVarInit, Send, Cast, Put, Swap}
use Rattle.cml_board.specs.declared.entry.Reply.{Reply}
use Rattle.cml_board.specs.declared.entry.Reply.TheVariants.{Made, Got}
use Rattle.cml_board.specs.declared.entry.Entry.{Entry}
use Rattle.cml_board.specs.Shown.{Shown}
use Rattle.cml_board.specs.History.{sent, answer}

-- if this many were sent, one more message is the last of its chunk
abbrev pub ends_chunk : ℕ → ℕ → Bool
ends_chunk chunk count = count % chunk == chunk - 1

module _ {M : Type 0} where
  abbrev pub tells_name : Option (Reply M) → Bool
  tells_name (Some (Made name)) = true
  tells_name reply = false

  abbrev pub tells_message : Option (Reply M) → Bool
  tells_message (Some (Got message)) = true
  tells_message reply = false

  abbrev pub has_message : Call M → Bool
  has_message (MVarInit message) = true
  has_message (Send name message) = true
  has_message (Cast name message) = true
  has_message (Put name message) = true
  has_message (Swap name message) = true
  has_message call = false

  -- the call would make an object
  abbrev pub makes_object : List (Entry M) → Call M → Bool
  makes_object history call = tells_name (answer history call)

  -- it would add the last message of a chunk
  abbrev pub fills_chunk : ℕ → List (Entry M) → Call M → Bool
  fills_chunk chunk history (Send name message) = ends_chunk chunk (length (sent history name.0))
  fills_chunk chunk history (Cast name message) = ends_chunk chunk (length (sent history name.0))
  fills_chunk chunk history call = false

  -- the call has a message, or its answer has one
  abbrev pub shares : List (Entry M) → Call M → Bool
  shares history call = has_message call || tells_message (answer history call)

  -- one entry is reserved, and the call takes no other memory: a message takes none where its share is sure
  pub record IsSpared (chunk : ℕ) (sure : Bool) (board : Shown M) (call : Call M) : Type 0 where
    pub reserved : 0 < board.reserved
    pub makes_none : makes_object board.history call ≡ false
    pub fills_none : fills_chunk chunk board.history call ≡ false
    pub shares_none : (sure || not (shares board.history call)) ≡ true
