-- The end of a seat's turn.
use Rattle.std.specs.Prelude.{ℕ, ◌≡◌, ◌⊎◌, List, slice_get, slice_set, Option, Some, None, IfSome}
use Rattle.cml_board.specs.{Entry, Want}
use Rattle.cml_room.specs.declared.news.News.{News}
use Rattle.cml_room.specs.declared.place.Place.{Place}
use Rattle.cml_room.specs.declared.state.State.{State}
use Rattle.cml_room.specs.declared.state.State.TheVariants.{Free, Parked}
use Rattle.cml_room.specs.News.{IsOf}
use Rattle.cml_room.specs.Places.{states_in, notices_in}
use Rattle.cml_room.specs.Rising.{RisesFew}
use Rattle.cml_room.specs.Running.{HasAsked}
use Rattle.cml_room.specs.Waking.{AreAt}

-- the seat is free or waits
abbrev pub MayTurn : List State → ℕ → Type 0
MayTurn states number = (slice_get states number ≡ Some Free) ⊎ ((on : Want) × (slice_get states number ≡ Some (Parked on)))

module _ {M : Type 0} where
  -- the seat may end its turn, which brought these news: they are of an object that takes such a call, and a seat that waited
  -- brought none
  pub record MayEndTurn (history : List (Entry M)) (number : ℕ) (news : Option News) (places : List Place) : Type 0 where
    pub may : MayTurn (states_in places) number
    pub placed : AreAt history places
    pub of : IfSome news (IsOf history)
    pub brings : (on : Want) → slice_get (states_in places) number ≡ Some (Parked on) → news ≡ None

  -- the turn has ended: the seat is free and has asked, and few become due: who has news, or wants what the seat waited for
  pub record EndsTurn (history : List (Entry M)) (number : ℕ) (news : Option News) (olds lates : List Place) : Type 0 where
    pub states : states_in lates ≡ slice_set (states_in olds) number Free
    pub few : RisesFew history news (λ on. slice_get (states_in olds) number ≡ Some (Parked on)) olds lates
    pub asked : HasAsked number (notices_in olds) (notices_in lates)
