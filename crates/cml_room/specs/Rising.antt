-- Which seats become due.
use Rattle.std.specs.Prelude.{ℕ, ◌≡◌, ◌⊎◌, true, false, List, slice_get, Option, Some, None, ⊤}
use Rattle.cml_calls.specs.declared.kind.Kind.TheVariants.{MVar}
use Rattle.cml_board.specs.{Entry, Want, kind_of}
use Rattle.cml_board.specs.declared.outcome.Outcome.{Outcome}
use Rattle.cml_board.specs.declared.outcome.Outcome.TheVariants.{Answered}
use Rattle.cml_room.specs.declared.news.News.{News}
use Rattle.cml_room.specs.declared.news.News.TheVariants.{Message, Value}
use Rattle.cml_room.specs.declared.place.Place.{Place}
use Rattle.cml_room.specs.declared.place.Place.TheVariants.{Waiting}
use Rattle.cml_room.specs.declared.place.Waiter.{Waiter}
use Rattle.cml_room.specs.declared.state.State.TheVariants.{Parked}
use Rattle.cml_room.specs.News.{news_in, Helps}
use Rattle.cml_room.specs.Places.{is_noted, IsQuiet}
use Rattle.cml_room.specs.Room.{RoomShown, has_notice, state_of}

-- the seat waited for this and wasn't due, and is due now
pub record HasRisen (olds news : List Place) (number : ℕ) (on : Want) : Type 0 where
  pub was : Waiter
  pub late : Waiter
  pub quiet : IsQuiet olds number was
  pub same : was.want ≡ on
  pub here : slice_get news number ≡ Some (Waiting late)
  pub due : is_noted late.notice ≡ true

-- of those that waited for the very same, one at most became due
abbrev pub OneEach : List Place → List Place → Type 0
OneEach olds news = (one other : ℕ) (on : Want) → HasRisen olds news one on → HasRisen olds news other on → one ≡ other

module _ {M : Type 0} where
  -- only one of those that wait for the very same can go on by it: by a message in a mailbox, and by a value in an m-variable
  abbrev pub IsForOne : List (Entry M) → Option News → Type 0
  IsForOne history None = ⊤
  IsForOne history (Some (Message name)) = ⊤
  IsForOne history (Some (Value name)) = kind_of history name.0 ≡ Some MVar
  IsForOne history news = ⊥

  -- who became due has news, or wanted what was left; and only one of those that want the same, where the news are for one
  pub record RisesFew (history : List (Entry M)) (news : Option News) (Handed : Want → Type 0) (olds lates : List Place) : Type 0 where
    pub why : (other : ℕ) (on : Want) → HasRisen olds lates other on → Helps history news on ⊎ Handed on
    pub one : IsForOne history news → OneEach olds lates

  -- the seat waited for this and had no notice, and has one now
  pub record BecomesDue (old new : RoomShown M) (number : ℕ) (on : Want) : Type 0 where
    pub waits : state_of old number ≡ Some (Parked on)
    pub before : has_notice (slice_get old.notices number) ≡ false
    pub now : has_notice (slice_get new.notices number) ≡ true

  -- what the seat waited for, which may be left for the next
  abbrev pub WantOf : RoomShown M → ℕ → Want → Type 0
  WantOf room number on = state_of room number ≡ Some (Parked on)

  -- a seat becomes due only where it waits for what the news bring, or for what was left; and only one of those that wait for the
  -- very same, where the news are for one
  pub record MakesFewDue (old new : RoomShown M) (Handed : Want → Type 0) (news : Option News) : Type 0 where
    pub why : (other : ℕ) (on : Want) → BecomesDue old new other on → Helps new.board.history news on ⊎ Handed on
    pub one : IsForOne new.board.history news
        → (one other : ℕ) (on : Want) → BecomesDue old new one on → BecomesDue old new other on → one ≡ other

  -- a seat becomes due only by news of one object, if there are any
  abbrev pub MakesFewByOne : RoomShown M → RoomShown M → Type 0
  MakesFewByOne old new = (news : Option News) × MakesFewDue old new (λ on. ⊥) news

  -- no seat becomes due
  abbrev pub MakesNoneDue : RoomShown M → RoomShown M → Type 0
  MakesNoneDue old new = (number : ℕ) (on : Want) → ¬ (BecomesDue old new number on)

  -- what a call's answer brings; one that wasn't answered brings nothing
  abbrev pub news_by : Outcome M → Option News
  news_by (Answered answer) = news_in answer.call
  news_by asked = None
