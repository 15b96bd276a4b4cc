-- What one thread performs of a script, whatever caller makes its calls.
use Rattle.std.specs.Prelude.{ℕ, ◌≡◌, ◌≢◌, ◌<◌, ◌≤◌, ◌⊎◌, ◌||◌, Bool, true, false, List, [], ◌∷◌, ◌++◌, length, filter, slice_get}
use Rattle.std.specs.Prelude.{Option, Some, None, Result, Ok, Err, IfSome, OnOk, ⊤}
use Rattle.std.specs.Option.{option_and_then}
use Rattle.std.specs.Result.{result_err}
use Rattle.std.specs.declared.alloc.AllocError.{AllocError}
use Rattle.cml_board.specs.{Name, Call, Who, Reply, Entry, Refusal, row_of, entries_in}
use Rattle.cml_board.specs.declared.call.Call.TheVariants.{NewPort}
use Rattle.cml_board.specs.declared.entry.Who.TheVariants.{Seat, Lane, Feed}
use Rattle.cml_board.specs.declared.entry.Reply.TheVariants as reply
use Rattle.cml_board.specs.declared.outcome.Refusal.TheVariants.{JournalFull, NoMemory}
use Rattle.cml_grammar.specs.{SourceLine, Lines, names_of, makes_of, Makes}
use Rattle.cml_grammar.specs.declared.forms.Makes.TheVariants as makes
use Rattle.cml_report.specs.declared.stop.Stop.{Stop}
use Rattle.cml_report.specs.declared.stop.Stop.TheVariants.{Done, Stalled, Full, Held}
use Rattle.cml_report.specs.Counting.{how_many}
use Rattle.cml_report.specs.Schedule.{History, declared_count, is_feed, maker, is_seated, earlier}
use Rattle.cml_script.specs.Apart.{Apart, is_by_lane, AreNextApart, earlier_apart}
use Rattle.cml_report.specs.Audit.{IsNextOfThread, IsOfScript}

-- What a caller made.

-- its seat, the entries that it made, the capacities that it opened its feeds with, and what went by its lanes and feeds,
-- newest first; whether a lane that it sent by may be open; and what refused it something, if anything did
pub record Made : Type 0 where
  pub seat : ℕ
  pub entries : History
  pub opened : List ℕ
  pub apart : List Apart
  pub is_sending : Bool
  pub refused : Option Refusal

-- with a call that its seat was answered
abbrev pub with_call : Call (List ℕ) → Reply (List ℕ) → Made → Made
with_call asked answered made = record made { entries = (record { who = Seat made.seat; call = asked; reply = answered }) ∷ made.entries }

abbrev pub is_of_feed : Entry (List ℕ) → Bool
is_of_feed entry = is_feed_of entry.who
  where
    is_feed_of : Who → Bool
    is_feed_of (Seat seat) = false
    is_feed_of (Lane lane) = false
    is_feed_of (Feed feed) = true

-- with a feed of this capacity and its port: its number is how many it opened before
abbrev pub with_feed : Name → ℕ → Name → Made → Made
with_feed channel capacity port made = record made {
  entries = (record { who = Feed (how_many is_of_feed made.entries); call = NewPort channel; reply = reply.Made port }) ∷ made.entries;
  opened = capacity ∷ made.opened;
}

-- with what went by a lane or a feed
abbrev pub with_apart : Apart → Made → Made
with_apart done made = record made { apart = done ∷ made.apart; is_sending = is_by_lane done || made.is_sending }

-- with all its lanes closed
abbrev pub with_closed : Made → Made
with_closed made = record made { is_sending = false }

-- with a refusal
abbrev pub with_refused : Refusal → Made → Made
with_refused refusal made = record made { refused = Some refusal }

-- a call that waits where it can't be answered
abbrev pub waits : Call (List ℕ) → Bool
waits asked = (row_of asked).blocks

-- no lane may be open while such a call waits
abbrev pub MayCall : Call (List ℕ) → Option Made → Type 0
MayCall asked made = IfSome made (λ made. waits asked ≡ true → made.is_sending ≡ false)

-- it has this seat, and made nothing yet, where it tells what it makes
abbrev pub BeginsAt : ℕ → Option Made → Type 0
BeginsAt seat made =
    IfSome made (λ made. made ≡ record { seat = seat; entries = []; opened = []; apart = []; is_sending = false; refused = None })

-- What declares.

-- the capacity of the feed that a declaration makes
abbrev pub capacity_made : Makes → Option ℕ
capacity_made (makes.Feed feed) = Some feed.capacity
capacity_made _ = None

-- the capacity of the feed of this number: feeds are counted from 0 in text order
abbrev pub feed_capacity : Lines → ℕ → Option ℕ
feed_capacity script feed =
    option_and_then (λ (line : SourceLine). option_and_then capacity_made (makes_of (names_of script) line.words))
    (slice_get (filter (is_feed script) script.declarations) feed)

-- each feed was opened with the capacity of its line, in text order: the newest comes first
abbrev pub AreOpened : Lines → List ℕ → Type 0
AreOpened script [] = ⊤
AreOpened script (capacity ∷ before) = (feed_capacity script (length before) ≡ Some capacity) × AreOpened script before

-- these are the declared objects, in text order, each made by seat 0 or by its feed, which has the capacity of its line; all of
-- them, where none was refused
pub record Declares (script : Lines) (made : Made) (ended : Result (Unit {0}) Refusal) : Type 0 where
  pub own : IsOfScript script made.entries
  pub opened : AreOpened script made.opened
  pub fed : length made.opened ≡ how_many is_of_feed made.entries
  pub within : entries_in made.entries ≤ declared_count script
  pub all : OnOk ended (entries_in made.entries ≡ declared_count script)
  pub refused : made.refused ≡ result_err ended

-- What a thread performs.

-- each entry is of this seat
abbrev pub AreBySeat : ℕ → History → Type 0
AreBySeat seat [] = ⊤
AreBySeat seat (entry ∷ before) = (entry.who ≡ Seat seat) × AreBySeat seat before

-- each entry is by who makes the declared object of its place
abbrev pub AreByMakers : Lines → History → Type 0
AreByMakers script [] = ⊤
AreByMakers script (entry ∷ before) = (entry.who ≡ maker script (entries_in before)) × AreByMakers script before

-- a history of the declared objects alone, each by who makes it
pub record IsOpening (script : Lines) (first : History) : Type 0 where
  pub all : entries_in first ≡ declared_count script
  pub by : AreByMakers script first

-- after the first entries each is the next step of its thread
abbrev pub AreNextSteps : Lines → History → History → Type 0
AreNextSteps script first [] = ⊤
AreNextSteps script first (entry ∷ done) = IsNextOfThread script (done ++ first) entry × AreNextSteps script first done

-- the i-th step is the thread's with this seat
pub record IsTurn (script : Lines) (seat i : ℕ) : Type 0 where
  pub line : SourceLine
  pub found : slice_get script.steps i ≡ Some line
  pub seated : is_seated script seat line ≡ true

-- what a refusal stops a thread with: what isn't want of room or of memory leaves it waiting for good
abbrev pub stop_of : Refusal → Result Stop AllocError
stop_of JournalFull = Ok Full
stop_of NoMemory = Err (record {})
stop_of refusal = Ok Stalled

-- how threads ended that ended differently: the first of no memory, full, held, stalled, done
abbrev pub first_stop : Stop → Stop → Stop
first_stop Full other = Full
first_stop one Full = Full
first_stop Held other = Held
first_stop one Held = Held
first_stop Stalled other = Stalled
first_stop one Stalled = Stalled
first_stop Done Done = Done

abbrev pub first_of : Result Stop AllocError → Result Stop AllocError → Result Stop AllocError
first_of (Err error) other = Err error
first_of (Ok one) (Err error) = Err error
first_of (Ok one) (Ok other) = Ok (first_stop one other)

-- no gate held it
abbrev pub IsUnheld : Result Stop AllocError → Type 0
IsUnheld stop = stop ≢ Ok Held

-- how a thread ends that would stop like this if this refusal had not kept a lane from closing
abbrev pub ending_with : Stop → Refusal → Result Stop AllocError
ending_with stop refusal = first_of (Ok stop) (stop_of refusal)

-- where nothing is refused a thread is done, and has no step from this place on, or it is held, and has its next one there;
-- or it never began, for want of memory, and its place is before the first step
abbrev pub IsUnrefused : Lines → ℕ → ℕ → Result Stop AllocError → Type 0
IsUnrefused script seat place (Ok Done) = (i : ℕ) → IsTurn script seat i → i < place
IsUnrefused script seat place (Ok Held) = IsTurn script seat place
IsUnrefused script seat place (Ok stop) = ⊥
IsUnrefused script seat place (Err error) = place ≡ 0

-- then its lanes are closed. A refusal stops it at its next step, or it comes from a lane that could not be closed where it
-- would have ended otherwise
abbrev pub IsStop : Lines → ℕ → ℕ → Bool → Option Refusal → Result Stop AllocError → Type 0
IsStop script seat place sending None stop = IsUnrefused script seat place stop × (sending ≡ false)
IsStop script seat place sending (Some refusal) stop =
    (IsTurn script seat place × (stop ≡ stop_of refusal))
    ⊎ ((sending ≡ true) × ((whole : Stop) × IsUnrefused script seat place (Ok whole) × (stop ≡ ending_with whole refusal)))

-- whatever made the declared objects: the entries of the thread with this seat are the steps that its seat performs, each on
-- its names' objects, and what went by its lanes and feeds are its other steps, from the first one on, in
-- order; all of both before a place of the text, and none from there on; it opens no feed; and this is why it stopped
pub record Works (script : Lines) (seat : ℕ) (made : Made) (stop : Result Stop AllocError) (first : History) : Type 0 where
  pub by : AreBySeat seat made.entries
  pub steps : AreNextSteps script first made.entries
  pub apart : AreNextApart script seat made.apart
  pub opens : made.opened ≡ []
  pub place : ℕ
  pub called : entries_in made.entries ≡ earlier script seat place
  pub gone : length made.apart ≡ earlier_apart script seat place
  pub stops : IsStop script seat place made.is_sending made.refused stop
