-- What the calls on a room's floor return to C: those of lanes and feeds, reservations and cuts.
use Rattle.std.specs.Prelude.{ℕ, ◌≡◌, Result, ⊤}
use Rattle.cml_board.specs.{Refusal}
use Rattle.cml_lanes.specs.{FloorShown, KeepsRings}
use Rattle.cml_room.specs.{RoomShown, floor_of}
use Rattle.cml_c.specs.Codes.{number, told_outcome, written_count}

-- this becomes of the floor and of the seats, with the code that tells it; the rings of the lanes and feeds stay
pub record Does {M : Type 0} (becomes : FloorShown M → FloorShown M → Result ⊤ Refusal → Type 0)
    (Leaves : RoomShown M → RoomShown M → Type 0) (code : ℕ) (old new : RoomShown M) : Type 0 where
  pub outcome : Result ⊤ Refusal
  pub floor : becomes (floor_of old) (floor_of new) outcome
  pub rings : KeepsRings (floor_of old) (floor_of new)
  pub seats : Leaves old new
  pub told : code ≡ number (told_outcome outcome)

-- the same of a call that gives a count, with the content before and after of the place where that is written
pub record Counts {M : Type 0} (becomes : FloorShown M → FloorShown M → Result ℕ Refusal → Type 0)
    (Leaves : RoomShown M → RoomShown M → Type 0) (code before after : ℕ) (old new : RoomShown M) : Type 0 where
  pub outcome : Result ℕ Refusal
  pub floor : becomes (floor_of old) (floor_of new) outcome
  pub rings : KeepsRings (floor_of old) (floor_of new)
  pub seats : Leaves old new
  pub told : code ≡ number (told_outcome outcome)
  pub written : after ≡ written_count before outcome
