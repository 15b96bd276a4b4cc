-- What a report says of a script and its history.
use Rattle.std.specs.Prelude.{ℕ, suc, ◌+◌, ◌-◌, ◌==◌, not, Bool, false, nat_lt, List, [], ◌∷◌, ◌++◌, length, filter}
use Rattle.std.specs.Prelude.{slice_get, Option, Some, None, if◌then◌else◌, codes}
use Rattle.std.specs.Option.{option_map_or, option_and_then}
use Rattle.std.specs.List.{join_with_byte}
use Rattle.std.specs.Fmt.{decimal}
use Rattle.cml_board.specs.{Call, Who, Reply, Entry, start_by, entries_in, origin_of, sent, got, owed, is_open, held, kept_from, kept_size}
use Rattle.cml_board.specs.declared.call.Call.TheVariants as call
use Rattle.cml_board.specs.declared.entry.Who.TheVariants as who
use Rattle.cml_board.specs.declared.entry.Reply.TheVariants as reply
use Rattle.cml_grammar.specs.{Named, Given, SourceLine, Lines, names_of, declared_word}
use Rattle.cml_grammar.specs.declared.names.Named.TheVariants.{Thread, Mailbox, Channel, Port, IVar, MVar, Feed}
use Rattle.cml_report.specs.Counting.{how_many}
use Rattle.cml_report.specs.declared.stop.Stop.{Stop}
use Rattle.cml_report.specs.declared.stop.Stop.TheVariants.{Done, Stalled, Full, Held}
use Rattle.cml_report.specs.Schedule.{History, objects_of, is_feed, declared_count, next_position, made_of, feed_at}

-- what a run tells beside its journal: how many steps went by lanes and feeds; by feed, in text order, how many messages
-- its thread took; and by lane, the seat of the thread that opened it
pub record Tallied : Type 0 where
  pub apart : ℕ
  pub taken : List ℕ
  pub lanes : List ℕ

-- the tally of a script without lanes and feeds
abbrev pub no_rings : Tallied
no_rings = record { apart = 0; taken = []; lanes = [] }

-- a line's end
abbrev pub line_end : List ℕ
line_end = 10 ∷ []

-- First part: a line for each entry after the declarations.

-- the mark before a message in reports of scripts of this version
abbrev pub message_mark : ℕ → List ℕ
message_mark version = if version == 2 then codes "=" else []

abbrev pub message_word : ℕ → List ℕ → List ℕ
message_word version message = message_mark version ++ message

abbrev pub reply_word : ℕ → Reply (List ℕ) → List ℕ
reply_word version reply.Done = codes "done"
reply_word version (reply.Made name) = codes "made"
reply_word version (reply.Got message) = message_word version message
reply_word version reply.Nothing = codes "none"
reply_word version reply.Put = codes "put"
reply_word version reply.Closed = codes "closed"

-- the step's line as in the script
abbrev pub line_text : SourceLine → List ℕ
line_text line = join_with_byte 32 line.words

-- the step that the caller's next call performs
abbrev pub next_step : Lines → History → Who → Option SourceLine
next_step script history who = option_and_then (slice_get script.steps) (next_position script history who)

-- the name that a declaration gives, where there is one
abbrev pub given_word : Option SourceLine → List ℕ
given_word line = option_map_or (λ word. word) (option_and_then (λ (l : SourceLine). declared_word l.words) line) []

-- what a lane made: its object is written by its declared name
abbrev pub sent_text : Lines → Call (List ℕ) → List ℕ
sent_text script (call.Send name message) =
    codes " send " ++ given_word (slice_get (objects_of script) name.0) ++ codes " " ++ message_word script.version message
sent_text script (call.Cast name message) =
    codes " multicast " ++ given_word (slice_get (objects_of script) name.0) ++ codes " " ++ message_word script.version message
sent_text script _ = []

-- what its caller made: a step is written as in the script
abbrev pub made_text : Lines → History → Call (List ℕ) → Who → List ℕ
made_text script before asked (who.Seat seat) = option_map_or line_text (next_step script before (who.Seat seat)) []
made_text script before asked (who.Lane lane) = codes "lane " ++ decimal lane ++ sent_text script asked
made_text script before asked (who.Feed feed) =
    codes "feed " ++ decimal feed ++ codes " recv " ++ given_word (slice_get (filter (is_feed script) script.declarations) feed)

abbrev pub entry_line : Lines → History → Entry (List ℕ) → List ℕ
entry_line script before entry =
    made_text script before entry.call entry.who ++ codes ": " ++ reply_word script.version entry.reply ++ line_end

abbrev pub entry_lines : Lines → History → List ℕ
entry_lines script [] = []
entry_lines script (entry ∷ before) =
    if nat_lt (entries_in before) (declared_count script) then entry_lines script before
    else entry_lines script before ++ entry_line script before entry

-- Second part: a line for each object.

abbrev pub mailbox_counts : History → ℕ → List ℕ
mailbox_counts history object =
    codes ": sent " ++ decimal (length (sent history object)) ++ codes " got " ++ decimal (length (got history object))
    ++ codes " waits " ++ decimal (length (owed history object))

-- a chunk holds four messages
abbrev pub channel_counts : History → ℕ → List ℕ
channel_counts history object =
    codes ": sent " ++ decimal (length (sent history object)) ++ codes " kept " ++ decimal (kept_size 4 history object)
    ++ codes " first " ++ decimal (kept_from 4 history object)

abbrev pub owed_or_closed : History → ℕ → List ℕ
owed_or_closed history object =
    if is_open history object then codes " owed " ++ decimal (length (owed history object)) else codes " closed"

abbrev pub port_counts : History → ℕ → List ℕ
port_counts history object =
    codes ": start " ++ decimal (start_by (origin_of history object)) ++ codes " got " ++ decimal (length (got history object))
    ++ owed_or_closed history object

abbrev pub counts_or_not_made : (ℕ → List ℕ) → Option ℕ → List ℕ
counts_or_not_made counts None = codes ": not made"
counts_or_not_made counts (Some object) = counts object

-- how many messages a thread took of its feed, and none where there is no feed
abbrev pub taken_from : Tallied → Option ℕ → ℕ
taken_from tally feed = option_map_or (λ taken. taken) (option_and_then (slice_get tally.taken) feed) 0

-- how many messages the thread of the feed with this name took
abbrev pub taken_by : Lines → Tallied → ℕ → ℕ
taken_by script tally at = taken_from tally (feed_at script at)

-- a feed's line is that of its port, with what was taken
abbrev pub feed_counts : Lines → History → Tallied → ℕ → ℕ → List ℕ
feed_counts script history tally at object = port_counts history object ++ codes " taken " ++ decimal (taken_by script tally at)

abbrev pub held_text : ℕ → Option (List ℕ) → List ℕ
held_text version None = codes ": empty"
held_text version (Some message) = codes ": full " ++ message_word version message

-- what the board has of an object that was made
abbrev pub state_text : Lines → History → Tallied → ℕ → Named → ℕ → List ℕ
state_text script history tally at (Thread seat) object = []
state_text script history tally at Mailbox object = mailbox_counts history object
state_text script history tally at Channel object = channel_counts history object
state_text script history tally at (Port whose) object = port_counts history object
state_text script history tally at IVar object = held_text script.version (held history object)
state_text script history tally at MVar object = held_text script.version (held history object)
state_text script history tally at (Feed owner) object = feed_counts script history tally at object

-- the line of an object that this word declares
abbrev pub word_line : Lines → History → Tallied → ℕ → List ℕ → List ℕ → Named → List ℕ
word_line script history tally at word name named =
    word ++ codes " " ++ name ++ counts_or_not_made (state_text script history tally at named) (made_of script history at) ++ line_end

abbrev pub named_line : Lines → History → Tallied → ℕ → List ℕ → Named → List ℕ
named_line script history tally at name (Thread seat) = []
named_line script history tally at name Mailbox = word_line script history tally at (codes "mailbox") name Mailbox
named_line script history tally at name Channel = word_line script history tally at (codes "channel") name Channel
named_line script history tally at name (Port whose) = word_line script history tally at (codes "port") name (Port whose)
named_line script history tally at name IVar = word_line script history tally at (codes "ivar") name IVar
named_line script history tally at name MVar = word_line script history tally at (codes "mvar") name MVar
named_line script history tally at name (Feed owner) = word_line script history tally at (codes "feed") name (Feed owner)

-- the line of the name at this position
abbrev pub object_line : Lines → History → Tallied → ℕ → Given → List ℕ
object_line script history tally at given = named_line script history tally at given.0 given.1

abbrev pub object_lines_from : Lines → History → Tallied → ℕ → List Given → List ℕ
object_lines_from script history tally at [] = []
object_lines_from script history tally at (given ∷ names) =
    object_line script history tally at given ++ object_lines_from script history tally (suc at) names

-- Third part: how it ended.

abbrev pub performed_count : Lines → History → ℕ
performed_count script history = entries_in history - declared_count script

-- a thread's seat made the entry: seat 0 makes only declared objects
abbrev pub is_of_thread : Who → Bool
is_of_thread (who.Seat seat) = not (seat == 0)
is_of_thread (who.Lane lane) = false
is_of_thread (who.Feed feed) = false

abbrev pub is_step_entry : Entry (List ℕ) → Bool
is_step_entry entry = is_of_thread entry.who

-- how many steps were not performed, by the threads' seats or by their lanes and feeds
abbrev pub unperformed : Lines → History → Tallied → ℕ
unperformed script history tally = length script.steps - (how_many is_step_entry history + tally.apart)

abbrev pub end_line : Lines → History → Tallied → Stop → List ℕ
end_line script history tally Done = codes "end: done " ++ decimal (performed_count script history) ++ line_end
end_line script history tally Stalled =
    codes "end: stalled " ++ decimal (performed_count script history) ++ codes " left "
    ++ decimal (unperformed script history tally) ++ line_end
end_line script history tally Full =
    codes "end: full " ++ decimal (performed_count script history) ++ codes " left "
    ++ decimal (unperformed script history tally) ++ line_end
end_line script history tally Held =
    codes "end: held " ++ decimal (performed_count script history) ++ codes " left "
    ++ decimal (unperformed script history tally) ++ line_end

abbrev pub report : Lines → History → Tallied → Stop → List ℕ
report script history tally stop =
    entry_lines script history ++ object_lines_from script history tally 0 (names_of script) ++ end_line script history tally stop
