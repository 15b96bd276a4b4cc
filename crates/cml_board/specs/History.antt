-- What a lawful history is. A history is a list of entries, the newest first. The entries before an entry are the tail after
-- it, so each definition goes back from the newest entry.
use Rattle.std.specs.Prelude.{ℕ, ◌≡◌, ◌==◌, ◌+◌, Bool, true, false, not, ◌&&◌, List, [], ◌∷◌, ◌++◌, length, drop, slice_get, Option}
use Rattle.std.specs.Prelude.{Some, is_some, unwrap_or, IsTrue, IsSome, IfSome, ⊤, if◌then◌else◌}
use Rattle.std.specs.Option.{option_map}
use Rattle.cml_calls.specs.{Kind}
use Rattle.cml_board.specs.declared.call.Call.{Call}
use Rattle.cml_board.specs.declared.call.Call.TheVariants.{NewMailbox, NewChannel, NewPort, CopyPort, ClosePort, NewIVar, NewMVar, MVarInit}
use Rattle.cml_board.specs.declared.call.Call.TheVariants.{Send, Cast, Recv, Poll, Put, Get, GetPoll, Take, TakePoll, Swap}
use Rattle.cml_board.specs.declared.entry.Reply.{Reply}
use Rattle.cml_board.specs.declared.entry.Reply.TheVariants.{Done, Made, Got, Nothing, Closed}
use Rattle.cml_board.specs.declared.entry.Reply.TheVariants as reply
use Rattle.cml_board.specs.declared.entry.Entry.{Entry}
use Rattle.cml_board.specs.declared.entry.Who.{Who}
use Rattle.cml_board.specs.declared.entry.Who.TheVariants.{Seat}
use Rattle.cml_board.specs.Origins.{Origin, mailbox, channel, port, ivar, mvar, kind_by, source_by, start_by, copy_of}
use Rattle.cml_board.specs.Objects.{object_in, takes}
use Rattle.cml_board.specs.Held.{held}

-- one for a lane or a feed, and none for a seat
abbrev pub ring_by : Who → ℕ
ring_by (Seat number) = 0
ring_by who = 1

module _ {M : Type 0} where
  -- the history of a board on which nothing was done
  abbrev pub no_entries : List (Entry M)
  no_entries = []

  -- how many entries there were since the board was made
  abbrev pub entries_in : List (Entry M) → ℕ
  entries_in history = length history

  -- how many of them are of lanes and feeds
  abbrev pub rings_in : List (Entry M) → ℕ
  rings_in [] = 0
  rings_in (entry ∷ before) = rings_in before + ring_by entry.who

  -- one entry more
  abbrev pub with_entry : List (Entry M) → Entry M → List (Entry M)
  with_entry history entry = entry ∷ history

  -- the message that a call sends to a mailbox or casts on a channel
  abbrev pub sent_by : Call M → ℕ → List M
  sent_by (Send name message) object = if name.0 == object then message ∷ [] else []
  sent_by (Cast name message) object = if name.0 == object then message ∷ [] else []
  sent_by call object = []

  -- all messages sent to a mailbox, or multicast on a channel, in order
  abbrev pub sent : List (Entry M) → ℕ → List M
  sent [] object = []
  sent (entry ∷ before) object = sent before object ++ sent_by entry.call object

  -- the message in a reply
  abbrev pub message_in : Reply M → List M
  message_in (Got message) = message ∷ []
  message_in reply = []

  -- the message that an entry received from a mailbox or a port
  abbrev pub got_by : Call M → Reply M → ℕ → List M
  got_by (Recv name) reply object = if name.0 == object then message_in reply else []
  got_by (Poll name) reply object = if name.0 == object then message_in reply else []
  got_by call reply object = []

  -- all messages received from a mailbox or a port, in order
  abbrev pub got : List (Entry M) → ℕ → List M
  got [] object = []
  got (entry ∷ before) object = got before object ++ got_by entry.call entry.reply object

  abbrev pub is_done : Reply M → Bool
  is_done Done = true
  is_done reply = false

  -- an entry closed this port
  abbrev pub closes : Call M → Reply M → ℕ → Bool
  closes (ClosePort name) reply object = if name.0 == object then is_done reply else false
  closes call reply object = false

  -- no entry closed it
  abbrev pub is_open : List (Entry M) → ℕ → Bool
  is_open [] object = true
  is_open (entry ∷ before) object = is_open before object && not (closes entry.call entry.reply object)

  -- how the object began that a call makes, if these were made before: a new port starts after all that was multicast on its
  -- channel, and a copy at its original's place
  abbrev pub begun_by : List Origin → List (Entry M) → Call M → List Origin
  begun_by origins before NewMailbox = mailbox ∷ []
  begun_by origins before NewChannel = channel ∷ []
  begun_by origins before (NewPort name) = port name.0 (length (sent before name.0)) ∷ []
  begun_by origins before (CopyPort name) = copy_of (slice_get origins name.0) (length (got before name.0))
  begun_by origins before NewIVar = ivar ∷ []
  begun_by origins before NewMVar = mvar ∷ []
  begun_by origins before (MVarInit message) = mvar ∷ []
  begun_by origins before call = []

  abbrev pub if_made : Reply M → List Origin → List Origin
  if_made (Made name) origins = origins
  if_made reply origins = []

  -- how each object began that was made so far, in order: an object's name is its position here
  abbrev pub made : List (Entry M) → List Origin
  made [] = []
  made (entry ∷ before) = made before ++ if_made entry.reply (begun_by (made before) before entry.call)

  -- how an object began, if it was made
  abbrev pub origin_of : List (Entry M) → ℕ → Option Origin
  origin_of history object = slice_get (made history) object

  -- the kind of an object, if it was made
  abbrev pub kind_of : List (Entry M) → ℕ → Option Kind
  kind_of history object = option_map kind_by (origin_of history object)

  -- the call's object was made
  abbrev pub IsMade : List (Entry M) → Call M → Type 0
  IsMade history call = IfSome (object_in call) (λ name. IsSome (kind_of history name.0))

  -- its kind is one that takes the call
  abbrev pub IsTaken : List (Entry M) → Call M → Type 0
  IsTaken history call = IfSome (object_in call) (λ name. IfSome (kind_of history name.0) (λ kind. IsTrue (takes kind call)))

  abbrev pub Fits : List (Entry M) → Call M → Type 0
  Fits history call = IsMade history call × IsTaken history call

  -- what a mailbox or a port is to give, in order: what was sent to the mailbox, or what was multicast on the port's
  -- channel from the port's start on
  abbrev pub due : List (Entry M) → ℕ → List M
  due history object =
      let origin = origin_of history object in
      drop (start_by origin) (sent history (source_by object origin))

  -- what is due and was not received yet
  abbrev pub owed : List (Entry M) → ℕ → List M
  owed history object = drop (length (got history object)) (due history object)

  -- the place of a mailbox or a port in the list of all that was sent or multicast
  abbrev pub place : List (Entry M) → ℕ → ℕ
  place history object = start_by (origin_of history object) + length (got history object)

  -- what a receive returns if this is owed; none if it waits
  abbrev pub received : List M → Option (Reply M)
  received messages = option_map Got (slice_get messages 0)

  -- what a read of a variable that holds this returns; none if it waits
  abbrev pub given : Option M → Option (Reply M)
  given message = option_map Got message

  abbrev pub new_name : List (Entry M) → Reply M
  new_name history = Made (record { 0 = length (made history) })

  abbrev pub where_open : List (Entry M) → ℕ → Option (Reply M) → Option (Reply M)
  where_open history object reply = if is_open history object then reply else Some Closed

  -- the answer of a call that fits; none if it waits
  abbrev pub answer : List (Entry M) → Call M → Option (Reply M)
  answer history NewMailbox = Some (new_name history)
  answer history NewChannel = Some (new_name history)
  answer history (NewPort name) = Some (new_name history)
  answer history NewIVar = Some (new_name history)
  answer history NewMVar = Some (new_name history)
  answer history (MVarInit message) = Some (new_name history)
  answer history (CopyPort name) = where_open history name.0 (Some (new_name history))
  answer history (ClosePort name) = where_open history name.0 (Some Done)
  answer history (Send name message) = Some Done
  answer history (Cast name message) = Some Done
  answer history (Recv name) = where_open history name.0 (received (owed history name.0))
  answer history (Poll name) = where_open history name.0 (Some (unwrap_or (received (owed history name.0)) Nothing))
  answer history (Put name message) = Some (if is_some (held history name.0) then reply.Put else Done)
  answer history (Get name) = given (held history name.0)
  answer history (GetPoll name) = Some (unwrap_or (given (held history name.0)) Nothing)
  answer history (Take name) = given (held history name.0)
  answer history (TakePoll name) = Some (unwrap_or (given (held history name.0)) Nothing)
  answer history (Swap name message) = given (held history name.0)

  -- each call fits what stood before it, and its reply is the answer there, which isn't a wait
  abbrev pub Lawful : List (Entry M) → Type 0
  Lawful [] = ⊤
  Lawful (entry ∷ before) = Fits before entry.call × (answer before entry.call ≡ Some entry.reply) × Lawful before
