-- A reservation of memory for entries, and a cut, as of a floor.
use Rattle.std.specs.Prelude.{ℕ, ◌≤◌, Result, ⊤}
use Rattle.cml_board.specs.{Refusal}
use Rattle.cml_lanes.specs.{FloorShown, Reserves, CutsAFloor}

abbrev pub ReservesSome : {M : Type 0} → ℕ → FloorShown M → FloorShown M → Result ⊤ Refusal → Type 0
ReservesSome entries old new outcome = Reserves old new entries outcome

-- the cut loses nothing of what was reserved
abbrev pub CutsReserved : {M : Type 0} → FloorShown M → FloorShown M → Result ⊤ Refusal → Type 0
CutsReserved old new outcome = CutsAFloor old new outcome × (old.board.reserved ≤ new.board.reserved)
