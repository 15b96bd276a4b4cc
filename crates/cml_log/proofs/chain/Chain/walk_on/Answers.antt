use Rattle.std.proofs.Common.{◌≡◌, ◌+◌, sym, ap, subst, ◌∙◌, arith, unwrap_or}
use Rattle.cml_log.specs.{LiesAt}
use Rattle.cml_log.proofs.BlockLemmas.{kept_where_lies}
use Rattle.cml_log.proofs.ChainLemmas.{leads_on}
use Rattle.cml_log.proofs.MovedLemmas.{next_begins}
use Rattle.cml_log.proofs.LendingLemmas.{before_end, holds_next}
use Rattle.cml_log.proofs.chain.Chain.walk_on.Goals.{After-unwrap_or-at}
use Rattle.cml_log.proofs.chain.Chain.walk_on.Goals as goal

pub walk_on-requires : goal.walk_on-requires
walk_on-requires g c = (
  omega arith,
  kept_where_lies c.self.inside.chunks.blocks.kept c.args.at.at.number c.args.at.at.at
      (subst (λ m. LiesAt m.cells c.args.at.at.number c.args.at.at.at) (sym c.self.view_is) c.requires.holds.lies),
)

-- the link leads to the chunk after it
leads : (g : _) (c : After-unwrap_or-at g) → (c.unwrap_or-at.result.number ≡ c.args.at.at.number + 1)
    × LiesAt c.args.self.now.cells c.unwrap_or-at.result.number c.unwrap_or-at.result.at
leads g c =
    leads_on c.self.inside.chunks.blocks.kept c.self.inside.head c.self.inside.tail c.self.inside.next c.self.inside.chunks.made.count
    c.self.inside.chunks.given.count c.self.invariant c.args.self.now c.self.inside.chunks.followed.count c.args.at.at
    c.unwrap_or-at.result c.self.view_is c.requires.holds.lies
    (before_end g.row.N c.args.self.now c.args.at c.requires.some c.requires.holds (omega (arith, c.requires.written)) c.if-place-ne0.false)
    (c.unwrap_or-at.ensures ∙ ap (λ link. unwrap_or link c.args.at.at) c.walk_on.ensures.link)

pub returns-clause-holds : goal.returns-clause-holds
returns-clause-holds g c =
    let leads = leads g (goal.at.returns-clause-holds g c).After-unwrap_or-at in
    holds_next g.row.N c.args.self.now c.args.at c.requires.some c.requires.holds (omega (arith, c.requires.written))
    c.unwrap_or-at.result c.if-place-ne0.false leads.0 leads.1

pub returns-clause-walked : goal.returns-clause-walked
returns-clause-walked g c =
    omega (arith, c.walk_on.ensures.counted, next_begins g.row.N c.args.at.place c.requires.some c.if-place-ne0.false)
