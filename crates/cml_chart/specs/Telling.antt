-- A journal, as the report that tells it.
use Rattle.std.specs.Prelude.{◌≡◌, ◌⊎◌, ℕ, zero, suc, ◌+◌, Bool, true, false, ◌&&◌, ◌||◌, nat_eq, nat_le, if◌then◌else◌, List, [], ◌∷◌, ◌++◌}
use Rattle.std.specs.Prelude.{length, reverse, take, codes, unwrap_or, Option, Some, None, Ok, ⊤}
use Rattle.std.specs.Fmt.{decimal}
use Rattle.std.specs.List.{starts_with, list_any}
use Rattle.std.specs.Str.{bytes_eq}
use Rattle.cml_calls.specs.{Kind}
use Rattle.cml_calls.specs.declared.kind.Kind.TheVariants as kind
use Rattle.cml_grammar.specs.{is_bad_byte}
use Rattle.cml_board.specs.{Call, Entry, Name, Reply, Who, made, kind_of, object_in, message_of, row_of, sent_count, got_count, owed_count}
use Rattle.cml_board.specs.{start_of, first_of, kept_count, held_by, no_entries, Lawful}
use Rattle.cml_board.specs.Shown.{Shown}
use Rattle.cml_board.specs.declared.call.Call.TheVariants as call
use Rattle.cml_board.specs.declared.entry.Reply.TheVariants as reply
use Rattle.cml_board.specs.declared.entry.Who.TheVariants as who
use Rattle.cml_journal.specs.{State, reading, waiting_at, unended, number_of, bytes_text, message_of_word, field}
use Rattle.cml_chart.specs.declared.ending.Ending.{Ending}
use Rattle.cml_chart.specs.declared.ending.Ending.TheVariants as ending

-- the first line is the header of a plain journal, or of a sealed one, without a sum
abbrev pub is_of_numbers : List ℕ → Bool
is_of_numbers text = starts_with nat_eq text (codes "journal 1\n") || starts_with nat_eq text (codes "journal 3\n")

abbrev pub is_of_bytes : List ℕ → Bool
is_of_bytes text = starts_with nat_eq text (codes "journal 2\n") || starts_with nat_eq text (codes "journal 4\n")

abbrev pub is_journal : List ℕ → Bool
is_journal text = nat_le (length text) 33554432 && (is_of_numbers text || is_of_bytes text)

-- a message's word, or its first 64 bytes if these are printed. `=` alone is no message of a report
abbrev pub front_word : List ℕ → List ℕ
front_word word = if list_any is_bad_byte (take 64 word) then word else take 64 word

abbrev pub shown_word : List ℕ → List ℕ
shown_word word =
    if bytes_eq word (codes "=") then codes "=\"\""
    else if nat_le (length word) 64 then word else front_word word

abbrev pub kind_word : Option Kind → List ℕ
kind_word (Some kind.Mailbox) = codes "mailbox"
kind_word (Some kind.Channel) = codes "channel"
kind_word (Some kind.Port) = codes "port"
kind_word (Some kind.IVar) = codes "ivar"
kind_word (Some kind.MVar) = codes "mvar"
kind_word None = codes "none"

-- a port that was to be the copy of a closed one has the position of the call
abbrev pub copy_name : ℕ → List ℕ
copy_name at = codes "copy" ++ decimal at

-- a lane or a feed in a report, if this is what it does there, and else the name of a thread
abbrev pub ring_name : List ℕ → Bool → ℕ → List ℕ
ring_name word true number = word ++ codes " " ++ decimal number
ring_name word false number = word ++ decimal number

-- a seat, or a lane
abbrev pub is_no_feed : Who → Bool
is_no_feed (who.Feed number) = false
is_no_feed other = true

abbrev pub counted : Option ℕ → List ℕ
counted count = decimal (unwrap_or count 0)

abbrev pub owed_or_closed : Option ℕ → List ℕ
owed_or_closed None = codes " closed\n"
owed_or_closed (Some owed) = codes " owed " ++ decimal owed ++ codes "\n"

module _ {M : Type 0} where
  -- what lanes do
  abbrev pub is_giving : Call M → Bool
  is_giving (call.Send name message) = true
  is_giving (call.Cast name message) = true
  is_giving other = false

  -- what feeds do
  abbrev pub is_got : Reply M → Bool
  is_got (reply.Got message) = true
  is_got other = false

  abbrev pub is_receiving : Call M → Reply M → Bool
  is_receiving (call.Recv name) answer = is_got answer
  is_receiving other answer = false

  abbrev pub doer_by : Who → Call M → Reply M → List ℕ
  doer_by (who.Seat number) asked answer = codes "seat" ++ decimal number
  doer_by (who.Lane number) asked answer = ring_name (codes "lane") (is_giving asked) number
  doer_by (who.Feed number) asked answer = ring_name (codes "feed") (is_receiving asked answer) number

  abbrev pub doer_name : Entry M → List ℕ
  doer_name entry = doer_by entry.who entry.call entry.reply

  -- the making of an object has no row, except that of a port which isn't a feed's own
  abbrev pub is_shown_by : Who → Call M → Bool
  is_shown_by by call.NewMailbox = false
  is_shown_by by call.NewChannel = false
  is_shown_by by call.NewIVar = false
  is_shown_by by call.NewMVar = false
  is_shown_by by (call.MVarInit message) = false
  is_shown_by by (call.NewPort name) = is_no_feed by
  is_shown_by by other = true

  abbrev pub has_row : Entry M → Bool
  has_row entry = is_shown_by entry.who entry.call

  abbrev pub row_count : List (Entry M) → ℕ
  row_count [] = 0
  row_count (entry ∷ more) = if has_row entry then suc (row_count more) else row_count more

  abbrev pub object_name : List (Entry M) → ℕ → List ℕ
  object_name history number = kind_word (kind_of history number) ++ decimal number

  -- the port that a call makes, after a space
  abbrev pub port_by : List (Entry M) → ℕ → Reply M → List ℕ
  port_by history at (reply.Made name) = codes " " ++ object_name history name.0
  port_by history at other = codes " " ++ copy_name at

  abbrev pub port_made : List (Entry M) → ℕ → Call M → Reply M → List ℕ
  port_made history at (call.NewPort name) answer = port_by history at answer
  port_made history at (call.CopyPort name) answer = port_by history at answer
  port_made history at other answer = []

  abbrev pub port_field : List (Entry M) → ℕ → Entry M → List ℕ
  port_field history at entry = port_made history at entry.call entry.reply

  abbrev pub lost_by : ℕ → Call M → Reply M → List ℕ
  lost_by at (call.CopyPort name) reply.Closed = codes "port " ++ copy_name at ++ codes ": not made\n"
  lost_by at call answer = []

  -- the line of a port that was to be the copy of a closed one
  abbrev pub lost_copy : ℕ → Entry M → List ℕ
  lost_copy at entry = lost_by at entry.call entry.reply

  abbrev pub lost_copies : ℕ → List (Entry M) → List ℕ
  lost_copies at [] = []
  lost_copies at (entry ∷ more) = lost_copy at entry ++ lost_copies (at + 1) more

  abbrev pub port_state : List (Entry M) → ℕ → List ℕ
  port_state history number =
      codes "start " ++ counted (start_of history number) ++ codes " got " ++ counted (got_count history number)
      ++ owed_or_closed (owed_count history number)

  abbrev pub mailbox_state : List (Entry M) → ℕ → List ℕ
  mailbox_state history number =
      (codes "sent " ++ counted (sent_count history number)) ++ (codes " got " ++ counted (got_count history number))
      ++ (codes " waits " ++ counted (owed_count history number)) ++ 10 ∷ []

  -- a chunk holds four messages
  abbrev pub channel_state : List (Entry M) → ℕ → List ℕ
  channel_state history number =
      (codes "sent " ++ counted (sent_count history number)) ++ (codes " kept " ++ counted (kept_count 4 history number))
      ++ (codes " first " ++ counted (first_of 4 history number)) ++ 10 ∷ []

  module _ (text : M → List ℕ) where
    abbrev pub told_reply : Reply M → List ℕ
    told_reply reply.Done = codes "done"
    told_reply (reply.Made name) = codes "made"
    told_reply (reply.Got message) = shown_word (text message)
    told_reply reply.Nothing = codes "none"
    told_reply reply.Put = codes "put"
    told_reply reply.Closed = codes "closed"

    -- a call: its word, its object, the port that it makes, and its message
    abbrev pub told_call : List (Entry M) → ℕ → Entry M → List ℕ
    told_call history at entry =
        (row_of entry.call).word ++ field (λ (name : Name). object_name history name.0) (object_in entry.call)
        ++ port_field history at entry ++ field (λ message. shown_word (text message)) (message_of entry.call)

    -- the line of an entry at this position
    abbrev pub row_text : List (Entry M) → ℕ → Entry M → List ℕ
    row_text history at entry =
        doer_name entry ++ codes " " ++ told_call history at entry ++ codes ": " ++ told_reply entry.reply ++ codes "\n"

    abbrev pub row : List (Entry M) → ℕ → Entry M → List ℕ
    row history at entry = if has_row entry then row_text history at entry else []

    -- the lines of entries from this position on
    abbrev pub rows : List (Entry M) → ℕ → List (Entry M) → List ℕ
    rows history at [] = []
    rows history at (entry ∷ more) = row history at entry ++ rows history (at + 1) more

    abbrev pub held_text : Option (Option M) → List ℕ
    held_text (Some (Some message)) = codes "full " ++ shown_word (text message) ++ codes "\n"
    held_text other = codes "empty\n"

    abbrev pub held_state : List (Entry M) → ℕ → List ℕ
    held_state history number = held_text (held_by history number)

    -- what is left in an object
    abbrev pub state_by : List (Entry M) → ℕ → Option Kind → List ℕ
    state_by history number (Some kind.Mailbox) = mailbox_state history number
    state_by history number (Some kind.Channel) = channel_state history number
    state_by history number (Some kind.Port) = port_state history number
    state_by history number other = held_state history number

    abbrev pub object_state : List (Entry M) → ℕ → List ℕ
    object_state history number = state_by history number (kind_of history number)

    -- the line of an object
    abbrev pub told_object : List (Entry M) → ℕ → List ℕ
    told_object history number =
        kind_word (kind_of history number) ++ codes " " ++ object_name history number ++ codes ": " ++ object_state history number

    -- the lines of the objects with numbers below this
    abbrev pub told_below : List (Entry M) → ℕ → List ℕ
    told_below history zero = []
    told_below history (suc number) = told_below history number ++ told_object history number

    abbrev pub told_objects : List (Entry M) → List ℕ
    told_objects history = told_below history (length (made history))

    -- the report that tells these entries: how the run ended isn't known, so it is held
    abbrev pub journal_report : List (Entry M) → List ℕ
    journal_report history =
        rows history 0 (reverse history) ++ told_objects history ++ lost_copies 0 (reverse history)
        ++ codes "end: held " ++ decimal (row_count (reverse history)) ++ codes " left 0\n"

  module _ (version : ℕ) (meaning : List ℕ → Option M) where
    -- these bytes were read from position 0 on up to this state, and the board has made the calls of all entries in them
    pub record IsReplayed (bytes : List ℕ) (state : State) (board : Shown M) : Type 0 where
      pub entries : List (Entry M)
      pub read : reading version meaning (waiting_at 0) bytes ≡ Ok (state, entries)
      pub made : board.history ≡ reverse entries
      pub whole : board.past ≡ no_entries

    -- these bytes come after any others that were replayed
    abbrev pub Replays : List ℕ → State → Shown M → State → Shown M → Type 0
    Replays bytes old board new after = (front : List ℕ) → IsReplayed front old board → IsReplayed (front ++ bytes) new after

    -- the bytes are a whole journal of lawful entries, and the board has made their calls
    pub record IsWholeJournal (bytes : List ℕ) (board : Shown M) : Type 0 where
      pub state : State
      pub replayed : IsReplayed bytes state board
      pub ended : unended version state ≡ None
      pub lawful : Lawful board.history

    -- the bytes are a whole journal of lawful entries, and this report tells them
    pub record IsTelling (text : M → List ℕ) (bytes report : List ℕ) : Type 0 where
      pub board : Shown M
      pub journal : IsWholeJournal bytes board
      pub says : report ≡ journal_report text board.history

-- .. of bytes or of numbers
abbrev pub IsToldAs : Bool → List ℕ → List ℕ → Type 0
IsToldAs true bytes report = IsTelling 2 message_of_word bytes_text bytes report
IsToldAs false bytes report = IsTelling 1 number_of decimal bytes report

abbrev pub IsToldBy : List ℕ → List ℕ → Type 0
IsToldBy bytes report = IsToldAs (is_of_bytes bytes) bytes report

-- the report that is drawn: the text itself, unless that is a journal
abbrev pub IsReportIn : List ℕ → List ℕ → Type 0
IsReportIn text report =
    ((is_journal text ≡ false) × (report ≡ text)) ⊎ ((is_journal text ≡ true) × IsToldBy text report)

abbrev pub report_or : List ℕ → Option (List ℕ) → List ℕ
report_or text None = text
report_or text (Some report) = report

-- how it ends if a journal was not told
abbrev pub EndsReplay : Ending → Type 0
EndsReplay (ending.JournalFault line what) = ⊤
EndsReplay (ending.Unlawful at) = ⊤
EndsReplay (ending.Unended how) = ⊤
EndsReplay ending.NoMemory = ⊤
EndsReplay _ = ⊥

abbrev pub EndsUntold : List ℕ → Ending → Type 0
EndsUntold text ended = (is_journal text ≡ true) × EndsReplay ended
