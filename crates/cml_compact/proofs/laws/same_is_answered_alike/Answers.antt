use Rattle.cml_compact.proofs.AlikeLemmas.{alike_from, alike_later, alike_same, follows_same, same_back}
use Rattle.cml_compact.proofs.laws.same_is_answered_alike.Goals as goal

pub returns-clause-followed : goal.returns-clause-followed
returns-clause-followed g c = λ old new first second same since. (
  follows_same old new since second same,
  follows_same new old since first (same_back old new same),
)

pub returns-clause-leaves : goal.returns-clause-leaves
returns-clause-leaves g c = λ old new since lawful same follows.
    alike_same _ _ (alike_later old new since lawful (alike_from old new same) follows).1
