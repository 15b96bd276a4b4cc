-- What a call does that is noted as an equal one, and what it returns then.
use Rattle.std.proofs.Common.{◌≡◌, ℕ, Bool, refl, sym, subst}
use Rattle.cml_board.specs.{Call, Who, Fits, HasRoom, Performs, Refuses, IsAsBefore, Refusal}
use Rattle.cml_board.specs.Shown.{Shown}
use Rattle.cml_board.specs.declared.outcome.Response.TheVariants.{Refused}

module _ {M : Type 0} where
  -- it fails for want of memory as the call does
  pub refuses_call : (chunk : ℕ) (sure : Bool) (old new : Shown M) (who : Who) (call noted back : Call M) (refusal : Refusal)
      → noted ≡ call → Fits old.history call × HasRoom old → Performs chunk sure old new who noted (Refused refusal back)
      → Refuses chunk sure old call refusal × (call ≡ call) × IsAsBefore old new
  refuses_call chunk sure old new who call noted back refusal same fits does =
      let done = subst (λ c. Performs chunk sure old new who c (Refused refusal back)) same does in (
        subst (λ r. Refuses chunk sure old call r) (sym done.0) (fits.0, fits.1, done.1, done.2),
        refl,
        done.4,
      )
