-- Which reason of a call's refusal holds.
use Rattle.std.proofs.Common.{◌⊎◌, inl, inr}
use Rattle.cml_board.specs.{Refusal}
use Rattle.cml_board.specs.declared.outcome.Refusal.TheVariants.{NoSuch}
use Rattle.cml_lanes.specs.{NoSuchOr}

pub or_no_such : (none : Type 0) (why : Refusal → Type 0) (refusal : Refusal) → NoSuchOr none why refusal → none ⊎ why refusal
or_no_such none why NoSuch it = inl it
or_no_such none why refusal it = inr it
