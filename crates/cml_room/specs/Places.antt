-- What a room knows of its seats.
use Rattle.std.specs.Prelude.{ℕ, ◌≡◌, ◌<◌, ◌==◌, ◌||◌, ◌%◌, ◌⊎◌, ◌++◌, Bool, true, false, List, map, length, replicate, slice_get, Option}
use Rattle.std.specs.Prelude.{Some, None}
use Rattle.cml_board.specs.{Want}
use Rattle.cml_room.specs.declared.notice.Notice.{Notice}
use Rattle.cml_room.specs.declared.notice.Notice.TheVariants.{Nothing, Due, Woken}
use Rattle.cml_room.specs.declared.place.Place.{Place}
use Rattle.cml_room.specs.declared.place.Place.TheVariants as place
use Rattle.cml_room.specs.declared.place.Waiter.{Waiter}
use Rattle.cml_room.specs.declared.state.State.{State}
use Rattle.cml_room.specs.declared.state.State.TheVariants as state
use Rattle.cml_room.specs.Queues.{QueuesShown, is_in}

abbrev pub state_by : Place → State
state_by place.Free = state.Free
state_by (place.Waiting waiter) = state.Parked waiter.want
state_by place.Left = state.Left

-- the seat was made, and has not left
abbrev pub is_here : Option Place → Bool
is_here None = false
is_here (Some place.Left) = false
is_here some = true

-- this many seats that have left, and then these
abbrev pub behind_gone : ℕ → List Place → List Place
behind_gone gone places = replicate gone place.Left ++ places

-- the seats with these first numbers have left
abbrev pub HaveLeft : ℕ → List Place → Type 0
HaveLeft count places = (number : ℕ) → number < count → slice_get places number ≡ Some place.Left

abbrev pub notice_by : Place → Notice
notice_by (place.Waiting waiter) = waiter.notice
notice_by place = Nothing

abbrev pub notice_in : Option Place → Notice
notice_in (Some place) = notice_by place
notice_in None = Nothing

abbrev pub states_in : List Place → List State
states_in places = map state_by places

abbrev pub notices_in : List Place → List Notice
notices_in places = map notice_by places

-- the seat is due
abbrev pub is_noted : Notice → Bool
is_noted Nothing = false
is_noted notice = true

-- the row of the seats that wait for messages of this object
abbrev pub row_of : ℕ → ℕ
row_of source = source % 64

-- the seat is in this row
abbrev pub row_in : Option Place → ℕ → Bool
row_in (Some (place.Waiting waiter)) row = row == row_of waiter.source
row_in place row = false

-- who is due and wasn't woken is in the first queue, and who was woken in the second
abbrev pub noted_as : Notice → ℕ → Bool
noted_as Nothing row = false
noted_as Due row = row == 0
noted_as Woken row = row == 1

abbrev pub noted_in : Option Place → ℕ → Bool
noted_in (Some (place.Waiting waiter)) row = noted_as waiter.notice row
noted_in place row = false

-- a seat is just in those queues
abbrev pub AreListed : QueuesShown → (Option Place → ℕ → Bool) → List Place → Type 0
AreListed queues stands places = (number row : ℕ) → is_in queues row number ≡ stands (slice_get places number) row

-- the seat isn't due any more
abbrev pub quieted : Place → Place
quieted (place.Waiting waiter) = place.Waiting (record waiter { notice = Nothing })
quieted place = place

-- it is due, if it waits
abbrev pub roused_notice : Notice → Notice
roused_notice Nothing = Due
roused_notice notice = notice

abbrev pub roused : Place → Place
roused (place.Waiting waiter) = place.Waiting (record waiter { notice = roused_notice waiter.notice })
roused place = place

-- some of the seats became due, each of which waits for something of that kind
pub record AreRoused (So : Waiter → Type 0) (olds news : List Place) : Type 0 where
  pub each : length news ≡ length olds
  pub now : (number : ℕ) (old new : Place) → slice_get olds number ≡ Some old → slice_get news number ≡ Some new
      → (new ≡ old) ⊎ ((waiter : Waiter) × (old ≡ place.Waiting waiter) × So waiter × (new ≡ roused old))

-- a seat that waits for this is due
pub record IsMate (places : List Place) (on : Want) : Type 0 where
  pub number : ℕ
  pub waiter : Waiter
  pub here : slice_get places number ≡ Some (place.Waiting waiter)
  pub same : waiter.want ≡ on
  pub due : is_noted waiter.notice ≡ true

-- the seat waits, and isn't due
pub record IsQuiet (places : List Place) (number : ℕ) (waiter : Waiter) : Type 0 where
  pub here : slice_get places number ≡ Some (place.Waiting waiter)
  pub nothing : waiter.notice ≡ Nothing

-- whether a seat is due, where all that wait are or not
abbrev pub place_due : Bool → Option Place → Bool
place_due all (Some (place.Waiting waiter)) = all || is_noted waiter.notice
place_due all place = false

-- each seat does what it did, and wants the same; who was due still is, and who isn't wasn't
pub record AreAlike (olds news : List Place) : Type 0 where
  pub states : states_in news ≡ states_in olds
  pub back : (number : ℕ) (waiter : Waiter) → slice_get news number ≡ Some (place.Waiting waiter)
      → (old : Waiter) × (slice_get olds number ≡ Some (place.Waiting old)) × (old.want ≡ waiter.want) × (old.source ≡ waiter.source)
      × (waiter.notice ≡ Nothing → old.notice ≡ Nothing)
  pub on : (number : ℕ) (old : Waiter) → slice_get olds number ≡ Some (place.Waiting old)
      → (waiter : Waiter) × (slice_get news number ≡ Some (place.Waiting waiter)) × (waiter.want ≡ old.want)
      × (is_noted old.notice ≡ true → is_noted waiter.notice ≡ true)
  pub woken : (number : ℕ) (old : Waiter) → slice_get olds number ≡ Some (place.Waiting old) → old.notice ≡ Woken
      → (waiter : Waiter) × (slice_get news number ≡ Some (place.Waiting waiter)) × (waiter.notice ≡ Woken)
