use Rattle.std.proofs.Common.{◌+◌, ◌-◌, ◌*◌, ◌≤◌, drop, sym, ap, subst, ◌∙◌, arith}
use Rattle.std.specs.List.{slice_get}
use Rattle.cml_log.specs.{LiesAt}
use Rattle.cml_log.proofs.BlockLemmas.{kept_where_lies}
use Rattle.cml_log.proofs.ChainLemmas.{item_shown, left_there}
use Rattle.cml_log.proofs.chain.Chain.item.Goals as goal

pub item-requires : goal.item-requires
item-requires g c =
    let there = kept_where_lies c.self.inside.chunks.blocks.kept c.args.at.number c.args.at.at
    (subst (λ m. LiesAt m.cells c.args.at.number c.args.at.at) (sym c.self.view_is) c.requires.lies) in (
      omega arith,
      (
        there,
        left_there c.self.inside.chunks.blocks.kept c.self.inside.head c.self.inside.tail c.self.inside.next
            c.self.inside.chunks.made.count c.self.inside.chunks.given.count c.self.invariant c.args.at.number c.args.at.at c.args.slot
            there (subst (λ m. g.row.N * m.given + m.taken ≤ g.row.N * c.args.at.number + c.args.slot) (sym c.self.view_is) c.requires.left),
      ),
    )

pub returns : goal.returns
returns g c =
    c.item.ensures
    ∙ item_shown c.self.inside.chunks.blocks.kept c.self.inside.head c.self.inside.tail c.self.inside.next c.self.inside.chunks.made.count
    c.self.inside.chunks.given.count c.self.invariant c.args.at.number c.args.at.at c.args.slot c.requires.within
    (kept_where_lies c.self.inside.chunks.blocks.kept c.args.at.number c.args.at.at
    (subst (λ m. LiesAt m.cells c.args.at.number c.args.at.at) (sym c.self.view_is) c.requires.lies))
    ∙ ap (λ m. slice_get (drop (g.row.N * (c.args.at.number - m.given)) m.items) c.args.slot) c.self.view_is
