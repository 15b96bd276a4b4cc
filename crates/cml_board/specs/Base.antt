-- A history read from a cut on. Of what was cut away only a base is known: not the entries, but what they left. The base and
-- the entries since give, for each object, how it began, how many messages were sent to it, its place, whether it is open,
-- what it holds and which of its messages are kept. They give what is due to a receiver since the cut, what of that is still
-- owed, the answer of each call that fits, and the next base. Entries since the cut are listed newest first, as in a
-- history, and `since ++ past` is the whole history.
use Rattle.std.specs.Prelude.{ℕ, zero, suc, ◌+◌, ◌-◌, ◌*◌, ◌/◌, Bool, ◌&&◌, min, List, [], ◌∷◌, ◌++◌, length, drop, slice_get}
use Rattle.std.specs.Prelude.{Option, Some, is_some, unwrap_or, if◌then◌else◌}
use Rattle.cml_board.specs.declared.call.Call.{Call}
use Rattle.cml_board.specs.declared.call.Call.TheVariants.{NewMailbox, NewChannel, NewPort, CopyPort, ClosePort, NewIVar, NewMVar, MVarInit}
use Rattle.cml_board.specs.declared.call.Call.TheVariants.{Send, Cast, Recv, Poll, Put, Get, GetPoll, Take, TakePoll, Swap}
use Rattle.cml_board.specs.declared.entry.Reply.{Reply}
use Rattle.cml_board.specs.declared.entry.Reply.TheVariants.{Done, Made, Nothing, Closed}
use Rattle.cml_board.specs.declared.entry.Reply.TheVariants as reply
use Rattle.cml_board.specs.declared.entry.Entry.{Entry}
use Rattle.cml_board.specs.Origins.{Origin, port, source_by, start_by}
use Rattle.cml_board.specs.Held.{left_by, held}
use Rattle.cml_board.specs.History.{entries_in, rings_in, sent, got, is_open, begun_by, if_made, made, place, received, given}
use Rattle.cml_board.specs.Kept.{reads_by, kept_from}

-- what entries before a cut left: how many they were, and how many of them lanes and feeds made; how each object began; and
-- by an object's name how many messages were sent to it or multicast on it, those of them that are kept, its place in what
-- it receives, whether it is open, and what it holds
pub record Base (M : Type 0) : Type 0 where
  pub entries : ℕ
  pub rings : ℕ
  pub origins : List Origin
  pub count : ℕ → ℕ
  pub kept : ℕ → List M
  pub place : ℕ → ℕ
  pub opened : ℕ → Bool
  pub held : ℕ → Option M

-- a copy is a port of its original's channel, and starts at this place
abbrev pub copy_at : Option Origin → ℕ → List Origin
copy_at (Some (port source start)) at = port source at ∷ []
copy_at origin at = []

module _ {M : Type 0} where
  -- what a history leaves
  abbrev pub base_of : ℕ → List (Entry M) → Base M
  base_of chunk history = record {
    entries = entries_in history;
    rings = rings_in history;
    origins = made history;
    count = λ object. length (sent history object);
    kept = λ object. drop (kept_from chunk history object) (sent history object);
    place = place history;
    opened = is_open history;
    held = held history;
  }

  -- how many messages were sent to an object, or multicast on it, before the cut and since
  abbrev pub count_since : Base M → List (Entry M) → ℕ → ℕ
  count_since base since object = base.count object + length (sent since object)

  -- an object's place at the cut; for one that was made since, its start
  abbrev pub stood_at : Base M → ℕ → Option Origin → ℕ
  stood_at base object origin = if is_some (slice_get base.origins object) then base.place object else start_by origin

  -- the place of an object that began like this: it has passed over what it received since
  abbrev pub place_from : Base M → Option Origin → List (Entry M) → ℕ → ℕ
  place_from base origin since object = stood_at base object origin + length (got since object)

  -- how the object began that a call makes, if these were made before: a new port starts after all that was multicast on its
  -- channel, and a copy at its original's place
  abbrev pub begun_since : Base M → List Origin → List (Entry M) → Call M → List Origin
  begun_since base origins before (NewPort name) = port name.0 (count_since base before name.0) ∷ []
  begun_since base origins before (CopyPort name) =
      let origin = slice_get origins name.0 in
      copy_at origin (place_from base origin before name.0)
  begun_since base origins before call = begun_by origins before call

  -- how each object began, those of the base and then those made since
  abbrev pub made_since : Base M → List (Entry M) → List Origin
  made_since base [] = base.origins
  made_since base (entry ∷ before) =
      made_since base before ++ if_made entry.reply (begun_since base (made_since base before) before entry.call)

  -- how an object began, if it was made
  abbrev pub origin_since : Base M → List (Entry M) → ℕ → Option Origin
  origin_since base since object = slice_get (made_since base since) object

  -- the place of a mailbox or a port in the list of all that was sent or multicast
  abbrev pub place_since : Base M → List (Entry M) → ℕ → ℕ
  place_since base since object = place_from base (origin_since base since object) since object

  -- no entry closed it, before the cut or since
  abbrev pub open_since : Base M → List (Entry M) → ℕ → Bool
  open_since base since object = base.opened object && is_open since object

  -- what a variable holds: what the last entry since left that changed it, and else what it held at the cut
  abbrev pub held_since : Base M → List (Entry M) → ℕ → Option M
  held_since base [] object = base.held object
  held_since base (entry ∷ before) object = unwrap_or (left_by entry.call entry.reply object) (held_since base before object)

  -- the messages of a mailbox or a channel that were kept at the cut, and then those sent since
  abbrev pub stream_since : Base M → List (Entry M) → ℕ → List M
  stream_since base since source = base.kept source ++ sent since source

  -- the place of the first of them
  abbrev pub stream_start : Base M → ℕ → ℕ
  stream_start base source = base.count source - length (base.kept source)

  -- what a mailbox or a port is to give since the cut: its stream from where it stood then, or from its start, on; a port that
  -- was closed before the cut is to give nothing
  abbrev pub due_since : Base M → List (Entry M) → ℕ → List M
  due_since base since object =
      let origin = origin_since base since object in
      let source = source_by object origin in
      if base.opened object then drop (stood_at base object origin - stream_start base source) (stream_since base since source) else []

  -- what is due since the cut and was not received yet
  abbrev pub owed_since : Base M → List (Entry M) → ℕ → List M
  owed_since base since object = drop (length (got since object)) (due_since base since object)

  -- a mailbox reads its own messages, and an open port those of its channel
  abbrev pub reads_since : Base M → List (Entry M) → ℕ → ℕ → Bool
  reads_since base since source object = reads_by object (origin_since base since object) (open_since base since object) source

  -- the least place of those of the first n objects that read them, or their end where none does
  abbrev pub least_since : Base M → List (Entry M) → ℕ → ℕ → ℕ
  least_since base since source zero = count_since base since source
  least_since base since source (suc n) =
      if reads_since base since source n then min (place_since base since n) (least_since base since source n)
      else least_since base since source n

  -- kept is what lies from the start of the least place's chunk on
  abbrev pub kept_since : ℕ → Base M → List (Entry M) → ℕ → ℕ
  kept_since chunk base since source = chunk * (least_since base since source (length (made_since base since)) / chunk)

  -- those of its messages that are kept
  abbrev pub messages_since : ℕ → Base M → List (Entry M) → ℕ → List M
  messages_since chunk base since source =
      drop (kept_since chunk base since source - stream_start base source) (stream_since base since source)

  -- the next object's name
  abbrev pub name_since : Base M → List (Entry M) → Reply M
  name_since base since = Made (record { 0 = length (made_since base since) })

  -- a closed port answers that it is closed
  abbrev pub where_open_since : Base M → List (Entry M) → ℕ → Option (Reply M) → Option (Reply M)
  where_open_since base since object reply = if open_since base since object then reply else Some Closed

  -- the answer of a call that fits; none where it waits
  abbrev pub answer_since : Base M → List (Entry M) → Call M → Option (Reply M)
  answer_since base since NewMailbox = Some (name_since base since)
  answer_since base since NewChannel = Some (name_since base since)
  answer_since base since (NewPort name) = Some (name_since base since)
  answer_since base since NewIVar = Some (name_since base since)
  answer_since base since NewMVar = Some (name_since base since)
  answer_since base since (MVarInit message) = Some (name_since base since)
  answer_since base since (CopyPort name) = where_open_since base since name.0 (Some (name_since base since))
  answer_since base since (ClosePort name) = where_open_since base since name.0 (Some Done)
  answer_since base since (Send name message) = Some Done
  answer_since base since (Cast name message) = Some Done
  answer_since base since (Recv name) = where_open_since base since name.0 (received (owed_since base since name.0))
  answer_since base since (Poll name) =
      where_open_since base since name.0 (Some (unwrap_or (received (owed_since base since name.0)) Nothing))
  answer_since base since (Put name message) = Some (if is_some (held_since base since name.0) then reply.Put else Done)
  answer_since base since (Get name) = given (held_since base since name.0)
  answer_since base since (GetPoll name) = Some (unwrap_or (given (held_since base since name.0)) Nothing)
  answer_since base since (Take name) = given (held_since base since name.0)
  answer_since base since (TakePoll name) = Some (unwrap_or (given (held_since base since name.0)) Nothing)
  answer_since base since (Swap name message) = given (held_since base since name.0)

  -- the base at the end of the entries since
  abbrev pub next_base : ℕ → Base M → List (Entry M) → Base M
  next_base chunk base since = record {
    entries = base.entries + entries_in since;
    rings = base.rings + rings_in since;
    origins = made_since base since;
    count = count_since base since;
    kept = messages_since chunk base since;
    place = place_since base since;
    opened = open_since base since;
    held = held_since base since;
  }
