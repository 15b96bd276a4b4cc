use Rattle.std.proofs.Common.{refl, sym, ◌∙◌, inr}
use Rattle.cml_c.proofs.due.tell_due.Goals as goal

pub returns : goal.returns
returns g c = (
  refl,
  inr
      (record {
        told = c.number-2.ensures;
        due = sym c.is_due.ensures.due ∙ c.if-is_due.false;
        asleep = c.is_due.ensures.asleep c.if-is_due.false;
      }),
)
