-- The law of waking: what each call of a room does to who was woken, and what holds after a run of calls. A seat counts as woken by a
-- bit that the room keeps. What the bit means is shown over runs: a `next_due` returned the seat, and it has not asked since. It is
-- not said that the thread of such a seat does ask, nor in which order `next_due` returns seats.
use Rattle.std.specs.Prelude.{ℕ, ◌≡◌, ◌≢◌, ◌==◌, ◌&&◌, ◌||◌, ◌⊎◌, not, Bool, true, false, List, [], ◌∷◌, slice_get, Option}
use Rattle.std.specs.Prelude.{Some, None, IfSome, IfNone, Result, Ok, Err, ⊤}
use Rattle.cml_board.specs.declared.outcome.Outcome.{Outcome}
use Rattle.cml_board.specs.{Refusal, Want}
use Rattle.cml_board.specs.declared.outcome.Outcome.TheVariants.{Refused}
use Rattle.cml_board.specs.declared.outcome.Refusal.TheVariants.{Gone}
use Rattle.cml_room.specs.declared.notice.Notice.{Notice}
use Rattle.cml_room.specs.declared.notice.Notice.TheVariants.{Nothing, Woken}
use Rattle.cml_room.specs.declared.state.State.TheVariants.{Parked}
use Rattle.cml_room.specs.Room.{RoomShown, floor_of, is_due, state_of}
use Rattle.cml_room.specs.Stalling.{IsStalled}
use Rattle.cml_room.specs.Waking.{WouldWait}

-- the bit
abbrev pub is_woken : Notice → Bool
is_woken Woken = true
is_woken notice = false

abbrev pub woken_in : Option Notice → Bool
woken_in (Some notice) = is_woken notice
woken_in None = false

-- the seat counts as woken
abbrev pub was_woken : List Notice → ℕ → Bool
was_woken notices seat = woken_in (slice_get notices seat)

-- the same seats count as woken
abbrev pub KeepsWoken : List Notice → List Notice → Type 0
KeepsWoken olds news = (seat : ℕ) → was_woken news seat ≡ was_woken olds seat

-- the seat asked: it has no notice now, and of the others the same count as woken
pub record HasAsked (own : ℕ) (olds news : List Notice) : Type 0 where
  pub quiet : slice_get news own ≡ Some Nothing
  pub others : (seat : ℕ) → seat ≢ own → was_woken news seat ≡ was_woken olds seat

-- a call of a room: one by which this seat asks; a `next_due`, with the seat that it returned, if any; or any other call
pub data RoomCall : Type 0 where
  AskOf : ℕ → RoomCall
  NextDue : Option ℕ → RoomCall
  Other : RoomCall

-- which of these a `withdraw` is
abbrev pub withdrawn_by : ℕ → Result ⊤ Refusal → RoomCall
withdrawn_by seat (Ok done) = AskOf seat
withdrawn_by seat (Err refusal) = Other

module _ {M : Type 0} where
  -- which an `ask` or `ask_again` is: the seat has asked, unless the call failed with `Gone`
  abbrev pub asked_by : ℕ → Outcome M → RoomCall
  asked_by seat (Refused Gone back) = Other
  asked_by seat outcome = AskOf seat

  -- what `next_due` does. The seat that it returns was due and not woken, and counts as woken now; of all others the same count as
  -- woken as before. If it returns none, each seat that is due counts as woken. It leaves no alarm: from then on, a seat is due
  -- only by its own notice. Which seats are due and all else stay as they were
  pub record GivesNext (given : Option ℕ) (old new : RoomShown M) : Type 0 where
    pub first : IfSome given (λ seat. (is_due old seat ≡ true) × (was_woken old.notices seat ≡ false) × (was_woken new.notices seat ≡ true))
    pub only : (seat : ℕ) → given ≢ Some seat → was_woken new.notices seat ≡ was_woken old.notices seat
    pub all : IfNone given ((seat : ℕ) → is_due new seat ≡ true → was_woken new.notices seat ≡ true)
    pub settled : new.all_due ≡ false
    pub same : (seat : ℕ) → is_due new seat ≡ is_due old seat
    pub seats : new.seats ≡ old.seats
    pub floor : floor_of new ≡ floor_of old

  -- the call was made, and this became of who was woken. The contract of each call of a room says which of the cases it is
  abbrev pub IsMade : RoomCall → RoomShown M → RoomShown M → Type 0
  IsMade (AskOf seat) old new = HasAsked seat old.notices new.notices
  IsMade (NextDue given) old new = GivesNext given old new
  IsMade Other old new = KeepsWoken old.notices new.notices

  -- the calls were made in turn, the last one first, and this became of the room
  abbrev pub AreMade : List RoomCall → RoomShown M → RoomShown M → Type 0
  AreMade [] old new = new ≡ old
  AreMade (call ∷ earlier) old new = (between : RoomShown M) × AreMade earlier old between × IsMade call between new

-- a `next_due` of the run returned the seat, and the seat has not asked since. The run's last call comes first
abbrev pub is_returned : List RoomCall → ℕ → Bool
is_returned [] seat = false
is_returned (AskOf own ∷ earlier) seat = not (seat == own) && is_returned earlier seat
is_returned (NextDue (Some given) ∷ earlier) seat = (seat == given) || is_returned earlier seat
is_returned (NextDue None ∷ earlier) seat = is_returned earlier seat
is_returned (Other ∷ earlier) seat = is_returned earlier seat

module _ {M : Type 0} where
  -- a seat that waits for this was returned in the run, and has not asked since
  pub record HasReturned (calls : List RoomCall) (room : RoomShown M) (on : Want) : Type 0 where
    pub seat : ℕ
    pub waits : state_of room seat ≡ Some (Parked on)
    pub returned : is_returned calls seat ≡ true

  -- a seat that waits for this may sleep: what it waits for isn't there, and the journal has room, or another that waits for the
  -- very same was returned, and asks next; and there is no stall
  pub record MaySleep (calls : List RoomCall) (room : RoomShown M) (on : Want) : Type 0 where
    pub rests : WouldWait room.board on ⊎ HasReturned calls room on
    pub moves : ¬ (IsStalled (floor_of room) room.seats)

  -- each seat that waits was returned in the run, and has not asked since; or it may sleep
  abbrev pub NobodyForgotten : List RoomCall → RoomShown M → Type 0
  NobodyForgotten calls room = (seat : ℕ) (on : Want) → state_of room seat ≡ Some (Parked on)
      → (is_returned calls seat ≡ true) ⊎ MaySleep calls room on

  -- a seat waits that was returned in the run, and has not asked since: it asks next
  abbrev pub AnotherAsksNext : List RoomCall → RoomShown M → Type 0
  AnotherAsksNext calls room = (on : Want) × HasReturned calls room on

  -- each seat that waits would wait again if it asked now, and there is no stall
  abbrev pub AllWouldWait : RoomShown M → Type 0
  AllWouldWait room = (seat : ℕ) (on : Want) → state_of room seat ≡ Some (Parked on)
      → WouldWait room.board on × ¬ (IsStalled (floor_of room) room.seats)
