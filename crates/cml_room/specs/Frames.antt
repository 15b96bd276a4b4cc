-- What a call leaves of the seats: their states, who was woken, and who becomes due. A seat that waits becomes due by a notice, or
-- because all that wait are due: that is the alarm, `all_due`.
use Rattle.std.specs.Prelude.{ℕ, ◌≡◌, Option}
use Rattle.cml_board.specs.{HasRoom}
use Rattle.cml_lanes.specs.{FloorShown}
use Rattle.cml_room.specs.declared.news.News.{News}
use Rattle.cml_room.specs.Places.{states_in, notices_in}
use Rattle.cml_room.specs.Rising.{RisesFew, MakesFewDue, WantOf}
use Rattle.cml_room.specs.Room.{RoomShown, floor_of}
use Rattle.cml_room.specs.Running.{RoomCall, Other, IsMade, KeepsWoken}
use Rattle.cml_room.specs.Seats.{SeatsShown}
use Rattle.cml_room.specs.Stalling.{IsStalled}

module _ {M : Type 0} where
  -- a call changes nothing of the seats: no state, no notice, and not the alarm
  pub record KeepsSeats (old new : RoomShown M) : Type 0 where
    pub seats : new.seats ≡ old.seats
    pub step : IsMade Other old new
    pub notices : new.notices ≡ old.notices
    pub alarm : new.all_due ≡ old.all_due

  -- a call of no seat: no seat's state is changed, the same seats count as woken, and so few become due by a notice. It raises the
  -- alarm only if the journal is full, or if there is a stall
  pub record Stirs (Few : RoomShown M → RoomShown M → Type 0) (old new : RoomShown M) : Type 0 where
    pub seats : new.seats ≡ old.seats
    pub step : IsMade Other old new
    pub few : Few old new
    pub alarm : HasRoom new.board → ¬ (IsStalled (floor_of new) new.seats) → new.all_due ≡ old.all_due

  -- a seat's call: this is its step in a run, and few become due by a notice: who waits for what it brought, or for what the seat
  -- itself waited for. It raises the alarm only if the journal is full
  pub record Turns (seat : ℕ) (call : RoomCall) (news : Option News) (old new : RoomShown M) : Type 0 where
    pub step : IsMade call old new
    pub few : MakesFewDue old new (WantOf old seat) news
    pub alarm : HasRoom new.board → new.all_due ≡ old.all_due

  -- what is left of the seats themselves after a call of no seat that brought these news: their states, who counts as woken, the
  -- few that become due, and the alarm
  pub record Settles (news : Option News) (floor : FloorShown M) (old new : SeatsShown) : Type 0 where
    pub states : states_in new.places ≡ states_in old.places
    pub woken : KeepsWoken (notices_in old.places) (notices_in new.places)
    pub few : RisesFew floor.board.history news (λ on. ⊥) old.places new.places
    pub alarm : HasRoom floor.board → ¬ (IsStalled floor (states_in old.places)) → new.all_due ≡ old.all_due
