-- Who sleeps rightly.
use Rattle.std.specs.Prelude.{ℕ, ◌≡◌, ◌≤◌, ◌==◌, ◌||◌, ◌&&◌, ◌⊎◌, Bool, false, List, slice_get, Option, Some, IsSome}
use Rattle.cml_board.specs.{Entry, Want, Fits, entries_in, kind_of, origin_of, Waits, wanting, HasRoom}
use Rattle.cml_board.specs.Shown.{Shown}
use Rattle.cml_lanes.specs.{FloorShown, KeepsLanes, Deed}
use Rattle.cml_room.specs.declared.place.Place.{Place}
use Rattle.cml_room.specs.declared.place.Place.TheVariants.{Waiting}
use Rattle.cml_room.specs.declared.place.Waiter.{Waiter}
use Rattle.cml_room.specs.declared.news.News.{News}
use Rattle.cml_room.specs.News.{object_of, source_of, NoNews}
use Rattle.cml_room.specs.Places.{states_in, IsMate, IsQuiet}
use Rattle.cml_room.specs.Stalling.{IsStalled}

-- the seat waits at this object, or at a port of this channel, where the object is a channel
abbrev pub reaches : ℕ → ℕ → Waiter → Bool
reaches object source waiter = (waiter.source == source) && ((object == source) || (object == object_of waiter.want))

module _ {M : Type 0} where
  -- a call with this want, made now, would wait: it fits, the journal has room, and what it wants is not there
  pub record WouldWait (board : Shown M) (on : Want) : Type 0 where
    pub waits : Waits board.history on
    pub room : HasRoom board

  -- each seat that waits does so at an object that takes such a call
  abbrev pub AreAt : List (Entry M) → List Place → Type 0
  AreAt history places = (number : ℕ) (waiter : Waiter) → slice_get places number ≡ Some (Waiting waiter)
      → Fits history (wanting waiter.want) × (waiter.source ≡ source_of history (object_of waiter.want))

  -- a seat that isn't due would wait if it asked now, or another that waits for the very same is due
  abbrev pub NoneForgotten : Shown M → List Place → Type 0
  NoneForgotten board places = (number : ℕ) (waiter : Waiter) → IsQuiet places number waiter
      → WouldWait board waiter.want ⊎ IsMate places waiter.want

  -- no seat that isn't due sleeps through a stall
  abbrev pub NoneStalled : FloorShown M → List Place → Type 0
  NoneStalled floor places = (number : ℕ) (waiter : Waiter) → IsQuiet places number waiter → ¬ (IsStalled floor (states_in places))

  -- what always holds of the seats of a room
  pub record IsWatched (floor : FloorShown M) (places : List Place) (all_due : Bool) : Type 0 where
    pub placed : AreAt floor.board.history places
    pub rests : all_due ≡ false → NoneForgotten floor.board places
    pub stalls : all_due ≡ false → NoneStalled floor places

  -- what comes after was made of what was before, by calls that brought these news alone: each object stays what it was, and who
  -- waits and has no news waits on
  pub record Follows (news : Option News) (old new : Shown M) : Type 0 where
    pub made : (object : ℕ) → IsSome (kind_of old.history object) → origin_of new.history object ≡ origin_of old.history object
    pub waits : (on : Want) → Waits old.history on → NoNews new.history news on → Waits new.history on

  -- this floor was made, by calls that brought these news, of one at which nobody slept wrongly
  pub record WasWatched (news : Option News) (floor : FloorShown M) (places : List Place) (all_due : Bool) : Type 0 where
    pub before : FloorShown M
    pub watched : IsWatched before places all_due
    pub follows : Follows news before.board floor.board

  -- the floor's board has this many entries since it was made, no fewer than were cut away; and the journal has of each open lane
  -- what was taken out of its ring
  pub record HasEntries (entries : ℕ) (floor : FloorShown M) : Type 0 where
    pub count : entries ≡ entries_in floor.board.history
    pub past : entries_in floor.board.past ≤ entries
    pub lanes : KeepsLanes floor.board.history floor.lanes

  -- this floor was made, by a call on a lane or a feed, of one that had this many entries and at which nobody slept wrongly
  pub record WasWatchedAt (entries : ℕ) (floor : FloorShown M) (places : List Place) (all_due : Bool) : Type 0 where
    pub before : FloorShown M
    pub had : HasEntries entries before
    pub watched : IsWatched before places all_due
    pub deed : Deed before floor
