use Rattle.std.proofs.Common.{sym, ap, subst, ◌∙◌, arith}
use Rattle.cml_log.specs.{LiesAt, count_of, count_at}
use Rattle.cml_log.proofs.BlockLemmas.{kept_where_lies, cell_shows}
use Rattle.cml_log.proofs.chain.Chain.cursors.Goals as goal

pub cursors-requires : goal.cursors-requires
cursors-requires g c = (
  omega arith,
  kept_where_lies c.self.inside.chunks.blocks.kept c.args.at.number c.args.at.at
      (subst (λ m. LiesAt m.cells c.args.at.number c.args.at.at) (sym c.self.view_is) c.requires),
)

pub returns : goal.returns
returns g c =
    ap count_of (sym c.cursors.ensures ∙ sym (cell_shows c.self.inside.chunks.blocks.kept c.args.at.number))
    ∙ ap (λ m. count_at m.cells c.args.at.number) c.self.view_is
