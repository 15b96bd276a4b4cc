-- What C gets of a new seat, of one that leaves, and of one that withdraws its call.
use Rattle.std.specs.Prelude.{ℕ, ◌≡◌, ◌≢◌, ◌⊎◌, [], ◌∷◌, ◌++◌, length, Some, None}
use Rattle.cml_board.specs.{Want}
use Rattle.cml_room.specs.{Turns, MakesNoneDue, RoomShown, MayAsk, state_of, with_state, floor_of, AskOf, Other, IsMade, free_in, parked_in}
use Rattle.cml_room.specs.declared.state.State.TheVariants.{Free, Left, Parked}
use Rattle.cml_c.specs.declared.code.Code.TheVariants.{Done, Gone, NoMemory}
use Rattle.cml_c.specs.Codes.{number}

-- a seat is made: it is free, and its number, which is written, is how many were made before; the same seats count as woken and are
-- due. Else there is no memory, and nothing is changed
pub record SeatIsMade {M : Type 0} (code before after : ℕ) (old new : RoomShown M) : Type 0 where
  pub told : code ≡ number Done
  pub number : after ≡ length old.seats
  pub seats : new.seats ≡ old.seats ++ Free ∷ []
  pub floor : floor_of new ≡ floor_of old
  pub step : IsMade Other old new
  pub none : MakesNoneDue old new
  pub alarm : new.all_due ≡ old.all_due

pub record NoSeatIsMade {M : Type 0} (code before after : ℕ) (old new : RoomShown M) : Type 0 where
  pub told : code ≡ number NoMemory
  pub written : after ≡ before
  pub room : new ≡ old

abbrev pub MakesSeat : {M : Type 0} → ℕ → ℕ → ℕ → RoomShown M → RoomShown M → Type 0
MakesSeat code before after old new = SeatIsMade code before after old new ⊎ NoSeatIsMade code before after old new

-- a free seat leaves, and no other's state is changed. Only if no seat is free then and some wait, all that wait may be due. Else the
-- seat may make no call, and nothing is changed
pub record SeatLeaves {M : Type 0} (seat code : ℕ) (old new : RoomShown M) : Type 0 where
  pub told : code ≡ number Done
  pub may : MayAsk old seat
  pub seats : new.seats ≡ with_state old seat Left
  pub floor : floor_of new ≡ floor_of old
  pub step : IsMade Other old new
  pub none : MakesNoneDue old new
  pub alarm : free_in new.seats ≢ 0 → new.all_due ≡ old.all_due
  pub alone : parked_in new.seats ≡ 0 → new.all_due ≡ old.all_due

pub record SeatMayNot {M : Type 0} (seat code : ℕ) (old new : RoomShown M) : Type 0 where
  pub told : code ≡ number Gone
  pub may_not : ¬ (MayAsk old seat)
  pub room : new ≡ old

abbrev pub Leaves : {M : Type 0} → ℕ → ℕ → RoomShown M → RoomShown M → Type 0
Leaves seat code old new = SeatLeaves seat code old new ⊎ SeatMayNot seat code old new

-- a parked seat is free, and nothing else is changed; only one that waits for the same may become due; else the seat isn't parked,
-- and nothing is changed
pub record CallIsWithdrawn {M : Type 0} (seat code : ℕ) (old new : RoomShown M) : Type 0 where
  pub told : code ≡ number Done
  pub on : Want
  pub parked : state_of old seat ≡ Some (Parked on)
  pub seats : new.seats ≡ with_state old seat Free
  pub floor : floor_of new ≡ floor_of old
  pub turns : Turns seat (AskOf seat) None old new
  pub alarm : new.all_due ≡ old.all_due

pub record NoCallIsWithdrawn {M : Type 0} (seat code : ℕ) (old new : RoomShown M) : Type 0 where
  pub told : code ≡ number Gone
  pub not_parked : (on : Want) → state_of old seat ≢ Some (Parked on)
  pub room : new ≡ old

abbrev pub Withdraws : {M : Type 0} → ℕ → ℕ → RoomShown M → RoomShown M → Type 0
Withdraws seat code old new = CallIsWithdrawn seat code old new ⊎ NoCallIsWithdrawn seat code old new
