-- Which seat C wakes next, and whether a seat is due.
use Rattle.std.specs.Prelude.{ℕ, ◌≡◌, ◌⊎◌, true, false, Some, None}
use Rattle.cml_board.specs.{Want}
use Rattle.cml_room.specs.declared.state.State.TheVariants.{Parked}
use Rattle.cml_room.specs.Running as running
use Rattle.cml_room.specs.{RoomShown, state_of, is_due, SleepsRightly}
use Rattle.cml_c.specs.declared.code.Code.TheVariants.{Done, Nothing}
use Rattle.cml_c.specs.Codes.{number}

-- the next seat is written; or there is none, and nothing is written
pub record GivesASeat {M : Type 0} (code after : ℕ) (old new : RoomShown M) : Type 0 where
  pub told : code ≡ number Done
  pub gives : running.GivesNext (Some after) old new

pub record GivesNoSeat {M : Type 0} (code before after : ℕ) (old new : RoomShown M) : Type 0 where
  pub told : code ≡ number Nothing
  pub written : after ≡ before
  pub gives : running.GivesNext None old new

abbrev pub GivesNext : {M : Type 0} → ℕ → ℕ → ℕ → RoomShown M → RoomShown M → Type 0
GivesNext code before after old new = GivesASeat code after old new ⊎ GivesNoSeat code before after old new

-- the seat is due; or it isn't, and sleeps rightly if it waits
pub record SeatIsDue {M : Type 0} (seat code : ℕ) (room : RoomShown M) : Type 0 where
  pub told : code ≡ number Done
  pub due : is_due room seat ≡ true

pub record SeatIsNotDue {M : Type 0} (seat code : ℕ) (room : RoomShown M) : Type 0 where
  pub told : code ≡ number Nothing
  pub due : is_due room seat ≡ false
  pub asleep : (on : Want) → state_of room seat ≡ Some (Parked on) → SleepsRightly room on

abbrev pub TellsDue : {M : Type 0} → ℕ → ℕ → RoomShown M → RoomShown M → Type 0
TellsDue seat code old new = (new ≡ old) × (SeatIsDue seat code old ⊎ SeatIsNotDue seat code old)
