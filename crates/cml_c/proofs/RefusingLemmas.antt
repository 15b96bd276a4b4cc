-- A call of a seat that may not make it.
use Rattle.std.proofs.Common.{◌≡◌, ℕ, Bool, true, false, refl, sym, ◌∙◌}
use Rattle.std.proofs.lemmas.Bool.{false≢true}
use Rattle.cml_board.specs.{Call}
use Rattle.cml_board.specs.declared.outcome.Outcome.{Outcome}
use Rattle.cml_board.specs.declared.outcome.Outcome.TheVariants.{Refused}
use Rattle.cml_board.specs.declared.outcome.Refusal.TheVariants as refusal
use Rattle.cml_room.specs.{RoomShown}
use Rattle.cml_c.specs.declared.code.Code.TheVariants.{Gone}
use Rattle.cml_c.specs.{number, Makes, MayMake}

-- it fails with `Gone`, and nothing is changed
pub is_gone : {M : Type 0} (sure again : Bool) (seat : ℕ) (call : Call M) (code : ℕ) (Gives : Outcome M → Type 0) (room : RoomShown M)
    → (MayMake again room seat call → ⊥) → code ≡ number Gone → Gives (Refused refusal.Gone call)
    → Makes sure again seat call code Gives room room
is_gone sure again seat call code Gives room may_not told gives = record {
  becomes = Refused refusal.Gone call;
  asks = (may_not, refl, refl);
  turns = record {
    step = λ other. refl;
    few = record {
      why = λ other on due. absurd (false≢true (sym due.before ∙ due.now));
      one = λ news one other on due late. absurd (false≢true (sym due.before ∙ due.now));
    };
    alarm = λ has. refl;
  };
  told = told;
  gives = gives;
}
