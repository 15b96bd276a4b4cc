-- A run of calls on a board.
use Rattle.std.specs.Prelude.{ℕ, ◌≡◌, ◌+◌, Bool, List, [], ◌∷◌}
use Rattle.cml_board.specs.declared.call.Call.{Call}
use Rattle.cml_board.specs.declared.entry.Who.{Who}
use Rattle.cml_board.specs.declared.outcome.Outcome.{Outcome}
use Rattle.cml_board.specs.declared.outcome.Outcome.TheVariants.{Answered}
use Rattle.cml_board.specs.Shown.{Shown}
use Rattle.cml_board.specs.Outcome.{Applies}

-- who made a call, and what became of it
pub record Step (M : Type 0) : Type 0 where
  pub who : Who
  pub call : Call M
  pub outcome : Outcome M

module _ {M : Type 0} where
  -- 1 where the call was answered
  abbrev pub answered_by : Outcome M → ℕ
  answered_by (Answered answer) = 1
  answered_by outcome = 0

  -- how many calls of a run were answered
  abbrev pub answered_count : List (Step M) → ℕ
  answered_count [] = 0
  answered_count (step ∷ later) = answered_by step.outcome + answered_count later

  -- the calls were made in turn, and this became of the board
  abbrev pub Runs : ℕ → Bool → List (Step M) → Shown M → Shown M → Type 0
  Runs chunk sure [] old new = new ≡ old
  Runs chunk sure (step ∷ later) old new =
      (between : Shown M) × Applies chunk sure old between step.who step.call step.outcome × Runs chunk sure later between new
