-- Which seat a thread unparks when it unlocks a hall, and in which halls there is none to unpark.
use Rattle.std.specs.Prelude.{ℕ, ◌≡◌, List, All, Option}
use Rattle.cml_room.specs.{State, GivesNext}
use Rattle.cml_room.specs.declared.state.State.TheVariants.{Left}
use Rattle.cml_threads.specs.Hosting.{Hosted, room_of}

-- `next_due` was called once on the hall as it was, and the seat that it returned is the one to unpark; none, if it returned none
abbrev pub UnparksNext : {M : Type 0} → Hosted M → Option ℕ → Type 0
UnparksNext {M} old unparked = (new : Hosted M) × GivesNext unparked (room_of old) (room_of new)

-- all seats have left
abbrev pub HaveLeft : List State → Type 0
HaveLeft seats = All (λ state. state ≡ Left) seats
