use Rattle.std.proofs.Common.{sym, ap, subst, ◌∙◌, arith}
use Rattle.cml_log.specs.{LiesAt, with_count}
use Rattle.cml_log.proofs.BlockLemmas.{kept_where_lies}
use Rattle.cml_log.proofs.ChainLemmas.{IsChain-at, shown-at, IsChain-recounted, shown-recounted}
use Rattle.cml_log.proofs.chain.Chain.set_cursors.Goals as goal

pub set_cursors-requires : goal.set_cursors-requires
set_cursors-requires g c = (
  omega arith,
  kept_where_lies c.self.inside.chunks.blocks.kept c.args.at.number c.args.at.at
      (subst (λ m. LiesAt m.cells c.args.at.number c.args.at.at) (sym c.self.view_is) c.requires),
)

pub invariant_of-self : goal.invariant_of-self
invariant_of-self g c =
    IsChain-at _ _ _ _ _ _ _ _
    (IsChain-recounted c.self.inside.chunks.blocks.kept c.self.inside.head c.self.inside.tail c.self.inside.next
    c.self.inside.chunks.made.count c.self.inside.chunks.given.count c.self.invariant _ c.args.at.number c.args.at.at _
    c.set_cursors.ensures.rewrites)
    c.set_cursors.ensures.counts.made c.set_cursors.ensures.counts.given

pub returns : goal.returns
returns g c =
    let counts = c.set_cursors.ensures.counts in
    shown-at _ c.self.inside.chunks.made.count c.self.inside.chunks.given.count c.self.inside.chunks.followed.count _ _ _
    counts.made counts.given counts.followed
    ∙ shown-recounted c.self.inside.chunks.blocks.kept c.self.inside.head c.self.inside.tail c.self.inside.next
    c.self.inside.chunks.made.count c.self.inside.chunks.given.count c.self.invariant _ c.args.at.number c.args.at.at _
    c.set_cursors.ensures.rewrites c.self.inside.chunks.followed.count
    ∙ ap (λ m. with_count m c.args.at.number c.args.at.at c.args.cursors) c.self.view_is
