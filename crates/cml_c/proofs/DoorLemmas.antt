-- A call whose message is not copied.
use Rattle.std.proofs.Common.{◌≡◌, ◌⊎◌, ℕ, Bool, List, Option, Some, None, inl, inr, refl, sym, subst}
use Rattle.std.specs.Prelude.{false}
use Rattle.cml_board.specs.{Call, Want}
use Rattle.cml_room.specs.{RoomShown}
use Rattle.cml_c.specs.{GivesBytes, MakesBytes, MayWant, NotCopied, OrNone, SendsFor, number}
use Rattle.cml_c.specs.declared.code.Code.{Code}
use Rattle.cml_c.specs.declared.code.Code.TheVariants.{Gone}
use Rattle.cml_c.specs.declared.messages.SeryugoBytes.{SeryugoBytes}
use Rattle.cml_c.proofs.RefusingLemmas.{is_gone}

-- it fails with the reason, or with `Gone`, and nothing is changed
pub uncopied : (again : Bool) (seat : ℕ) (sent : List ℕ) (call : Option (Call (List ℕ))) (want : Option Want) (lack code : ℕ) (reason : Code)
    (room : RoomShown (List ℕ)) (before : ℕ) (from : SeryugoBytes) → SendsFor call want → NotCopied sent lack
    → (MayWant again room seat want × (code ≡ lack)) ⊎ (¬ (MayWant again room seat want) × (code ≡ number Gone))
    → OrNone (λ call. MakesBytes again seat sent call code (GivesBytes before before from from) ((before ≡ before) × (from ≡ from)))
    reason code ((before ≡ before) × (from ≡ from)) call room room
uncopied again seat sent (Some call) want lack code reason room before from sends lacks (inl may) = record {
  becomes = inr (
    inr (
      sends.0,
      subst (λ (w : Option Want). MayWant again room seat w) (sym sends.1) may.0,
      subst (λ (n : ℕ). NotCopied sent n) (sym may.1) lacks,
    ),
    (refl, refl),
    refl,
  );
}
uncopied again seat sent (Some call) want lack code reason room before from sends lacks (inr may_not) = record {
  becomes = inl (is_gone false again seat call code (GivesBytes before before from from) room
      (λ may. may_not.0 (subst (λ (w : Option Want). MayWant again room seat w) sends.1 may)) may_not.1
      (record { name = refl; message = refl }));
}
uncopied again seat sent None want lack code reason room before from sends lacks may = absurd sends
