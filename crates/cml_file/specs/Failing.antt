-- How a call on a switchboard in a file fails.
use Rattle.std.specs.Prelude.{◌≡◌, ◌≢◌, true, ⊤}
use Rattle.cml_board.specs.{Call, Refusal, want_in}
use Rattle.cml_board.specs.declared.answer.Answer.{Answer}
use Rattle.cml_board.specs.declared.outcome.Refusal.TheVariants.{JournalFull}
use Rattle.cml_threads.specs.{MayRefuse, Sitting, raised, suits}
use Rattle.cml_file.specs.declared.failed.Failed.{Failed}
use Rattle.cml_file.specs.declared.failed.Failed.TheVariants.{Refused, Unmade, Unstored}
use Rattle.cml_file.specs.declared.kept_lane.Unsent.{Unsent}
use Rattle.cml_file.specs.declared.kept_lane.Unsent.TheVariants as unsent

module _ {M : Type 0} where
  -- a call that was not made comes back, and is not counted; one that was made has its answer, and is counted
  abbrev pub Fails : Sitting → Sitting → Call M → Failed (Call M) (Answer M) → Type 0
  Fails before after call (Refused refusal back) =
      MayRefuse (want_in call) refusal × (refusal ≢ JournalFull) × (back ≡ call) × (after ≡ before)
  Fails before after call (Unmade fault back) = (back ≡ call) × (after ≡ before)
  Fails before after call (Unstored fault answer) =
      (answer.call ≡ call) × (suits call answer.reply ≡ true) × (after ≡ raised before)

-- a call was made, and returned this
abbrev pub IsUnstored : {C T : Type 0} → T → Failed C T → Type 0
IsUnstored value (Refused refusal back) = ⊥
IsUnstored value (Unmade fault back) = ⊥
IsUnstored value (Unstored fault told) = told ≡ value

-- nothing was moved, and what was given comes back; or some was, and is not stored
abbrev pub FailsMoving : {C T : Type 0} → (Refusal → Type 0) → C → Failed C T → Type 0
FailsMoving may given (Refused refusal back) = may refusal × (refusal ≢ JournalFull) × (back ≡ given)
FailsMoving may given (Unmade fault back) = back ≡ given
FailsMoving may given (Unstored fault told) = ⊤

-- a message that was not sent comes back
abbrev pub IsUnsent : {M : Type 0} → M → Unsent M → Type 0
IsUnsent message (unsent.Full back) = back ≡ message
IsUnsent message (unsent.Refused fault back) = back ≡ message
