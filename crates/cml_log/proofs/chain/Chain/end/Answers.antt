use Rattle.std.proofs.Common.{subst}
use Rattle.cml_log.specs.{LiesAt}
use Rattle.cml_log.proofs.BlockLemmas.{lies_where_kept}
use Rattle.cml_log.proofs.chain.Chain.end.Goals as goal

pub returns-clause-lies : goal.returns-clause-lies
returns-clause-lies g c =
    subst (λ m. LiesAt m.cells c.self.inside.tail.number c.self.inside.tail.at) c.self.view_is
    (lies_where_kept c.self.inside.chunks.blocks.kept c.self.inside.tail.number c.self.inside.tail.at c.self.invariant.linked.finishes)
