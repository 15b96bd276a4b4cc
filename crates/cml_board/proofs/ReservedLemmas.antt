-- What was reserved lasts over a run of calls.
use Rattle.std.proofs.Common.{◌≡◌, ℕ, ◌+◌, ◌<◌, ◌≤◌, ◌||◌, Bool, true, false, not, List, [], ◌∷◌, ap, arith}
use Rattle.cml_board.specs.{Call, Who, makes_object, fills_chunk, shares, Applies, Refuses, Step, Runs, answered_by, answered_count}
use Rattle.cml_board.specs.declared.outcome.Outcome.{Outcome}
use Rattle.cml_board.specs.Shown.{Shown}
use Rattle.cml_board.specs.declared.outcome.Refusal.TheVariants.{NoMemory}
use Rattle.cml_board.specs.declared.outcome.Outcome.TheVariants.{Answered, WouldWait, Refused}

module _ {M : Type 0} where
  -- by one call
  lasts_once : (chunk : ℕ) (sure : Bool) (old new : Shown M) (who : Who) (call : Call M) (outcome : Outcome M)
      → Applies chunk sure old new who call outcome
      → old.reserved ≤ new.reserved + answered_by outcome
  lasts_once chunk sure old new who call (Refused refusal back) applies = omega (arith, applies.2.reserved)
  lasts_once chunk sure old new who call (WouldWait back) applies = omega (arith, applies.4.reserved)
  lasts_once chunk sure old new who call (Answered answer) applies = omega (arith, applies.5.reserved)

  pub lasts : (chunk : ℕ) (sure : Bool) (steps : List (Step M)) (old new : Shown M) → Runs chunk sure steps old new
      → old.reserved ≤ new.reserved + answered_count steps
  lasts chunk sure [] old new same = omega (arith, ap (λ (b : Shown M). b.reserved) same)
  lasts chunk sure (step ∷ later) old new runs =
      omega (arith, lasts_once chunk sure old runs.0 step.who step.call step.outcome runs.1, lasts chunk sure later runs.0 new runs.2)

  -- so a call that needs no other memory is not refused for want of it
  pub serves : (chunk : ℕ) (sure : Bool) (steps : List (Step M)) (old new : Shown M) → Runs chunk sure steps old new
      → answered_count steps < old.reserved
      → (call : Call M) → makes_object new.history call ≡ false → fills_chunk chunk new.history call ≡ false
      → (sure || not (shares new.history call)) ≡ true
      → ¬ (Refuses chunk sure new call NoMemory)
  serves chunk sure steps old new runs fewer call makes_none fills_none shares_none = λ refuses.
      refuses.3 (record {
        reserved = omega (arith, lasts chunk sure steps old new runs, fewer);
        makes_none = makes_none;
        fills_none = fills_none;
        shares_none = shares_none;
      })
