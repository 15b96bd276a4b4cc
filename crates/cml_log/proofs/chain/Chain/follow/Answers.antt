use Rattle.std.proofs.Common.{◌≡◌, ◌+◌, sym, ap, subst, ◌∙◌, arith, unwrap_or}
use Rattle.cml_log.specs.{LiesAt}
use Rattle.cml_log.proofs.BlockLemmas.{kept_where_lies}
use Rattle.cml_log.proofs.ChainLemmas.{leads_on}
use Rattle.cml_log.proofs.chain.Chain.follow.Goals.{After-unwrap_or}
use Rattle.cml_log.proofs.chain.Chain.follow.Goals as goal

pub follow-requires : goal.follow-requires
follow-requires g c = (
  omega arith,
  kept_where_lies c.self.inside.chunks.blocks.kept c.args.at.number c.args.at.at
      (subst (λ m. LiesAt m.cells c.args.at.number c.args.at.at) (sym c.self.view_is) c.requires.lies),
)

-- the link leads to the chunk after it
leads : (g : _) (c : After-unwrap_or g) → (c.unwrap_or.result.number ≡ c.args.at.number + 1)
    × LiesAt c.args.self.now.cells c.unwrap_or.result.number c.unwrap_or.result.at
leads g c =
    leads_on c.self.inside.chunks.blocks.kept c.self.inside.head c.self.inside.tail c.self.inside.next c.self.inside.chunks.made.count
    c.self.inside.chunks.given.count c.self.invariant c.args.self.now c.self.inside.chunks.followed.count c.args.at c.unwrap_or.result
    c.self.view_is c.requires.lies c.requires.before
    (c.unwrap_or.ensures ∙ ap (λ link. unwrap_or link c.args.at) c.follow.ensures.link)

pub returns-clause-number : goal.returns-clause-number
returns-clause-number g c = (leads g (goal.at.returns-clause-number g c).After-unwrap_or).0

pub returns-clause-lies : goal.returns-clause-lies
returns-clause-lies g c = (leads g (goal.at.returns-clause-lies g c).After-unwrap_or).1
