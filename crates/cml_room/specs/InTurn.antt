-- `next_due`, called again and again.
use Rattle.std.specs.Prelude.{ℕ, ◌≡◌, List, [], ◌∷◌, Some}
use Rattle.cml_room.specs.Room.{RoomShown}
use Rattle.cml_room.specs.Running.{GivesNext}

-- it returned these seats, the last one first
abbrev pub GivesInTurn : {M : Type 0} → List ℕ → RoomShown M → RoomShown M → Type 0
GivesInTurn [] old new = new ≡ old
GivesInTurn {M} (given ∷ earlier) old new = (between : RoomShown M) × GivesInTurn earlier old between × GivesNext (Some given) between new
