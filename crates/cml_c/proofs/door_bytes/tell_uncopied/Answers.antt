use Rattle.std.proofs.Common.{inr, sym, ◌∙◌}
use Rattle.std.proofs.lemmas.Bool.{false≢true}
use Rattle.cml_c.proofs.door_bytes.tell_uncopied.Goals as goal

pub returns : goal.returns
returns c = inr ((λ may. false≢true (sym c.if-may_make.false ∙ c.may_make.ensures.1 may)), c.number-2.ensures)
