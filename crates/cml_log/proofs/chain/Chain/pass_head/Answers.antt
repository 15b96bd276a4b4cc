use Rattle.std.proofs.Common.{◌≡◌, ◌<◌, ◌/◌, sym, ap, subst, ◌∙◌, arith}
use Rattle.cml_log.specs.{LiesAt, end_of}
use Rattle.cml_log.proofs.BlockLemmas.{lies_where_kept}
use Rattle.cml_log.proofs.chain.Chain.pass_head.Goals as goal

pub follow-next-requires : goal.follow-next-requires
follow-next-requires g c =
    let head : c.args.self.now.given ≡ c.follow.inside.head.number = ap (λ m. m.given) (sym c.follow.view_is)
    ∙ c.follow.invariant.given_is in (
      omega arith,
      (
        subst (λ m. LiesAt m.cells c.follow.inside.head.number c.follow.inside.head.at) c.follow.view_is
            (lies_where_kept c.follow.inside.chunks.blocks.kept c.follow.inside.head.number c.follow.inside.head.at
            c.follow.invariant.linked.starts),
        subst (λ n. n < end_of g.row.N c.args.self.now / g.row.N) head c.requires,
      ),
    )
