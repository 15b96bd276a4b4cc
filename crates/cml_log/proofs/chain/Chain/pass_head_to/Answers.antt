use Rattle.std.proofs.Common.{◌≡◌, ◌<◌, ◌/◌, sym, ap, subst, ◌∙◌, arith}
use Rattle.cml_log.specs.{IsChain, LiesAt, end_of, passed}
use Rattle.cml_log.proofs.BlockLemmas.{kept_where_lies}
use Rattle.cml_log.proofs.ChainLemmas.{shown, end_shown, without_head}
use Rattle.cml_log.proofs.chain.Chain.pass_head_to.Goals.{After-give_back}
use Rattle.cml_log.proofs.chain.Chain.pass_head_to.Goals as goal

-- the chunks from the next on are a chain, and are what is shown
passes : (g : _) (c : After-give_back g) → IsChain c.give_back.new.self.blocks.kept c.args.next c.self.inside.tail c.self.inside.next
    c.give_back.new.self.made.count c.give_back.new.self.given.count
    × (shown c.give_back.new.self.blocks.kept c.give_back.new.self.made.count c.give_back.new.self.given.count
    c.give_back.new.self.followed.count ≡ passed g.row.N c.args.self.now)
passes g c =
    let end = ap (end_of g.row.N) (sym c.self.view_is)
    ∙ end_shown c.self.inside.chunks.blocks.kept c.self.inside.head c.self.inside.tail c.self.inside.next c.self.inside.chunks.made.count
    c.self.inside.chunks.given.count c.self.invariant c.self.inside.chunks.followed.count in
    let given = ap (λ m. m.given) (sym c.self.view_is) in
    let before = subst (λ n. c.args.self.now.given < n / g.row.N) end c.requires.before in
    let there = kept_where_lies c.self.inside.chunks.blocks.kept c.args.next.number c.args.next.at
    (subst (λ m. LiesAt m.cells c.args.next.number c.args.next.at) (sym c.self.view_is) c.requires.lies) in
    let back = c.give_back.ensures in
    let without = without_head c.self.inside.chunks.blocks.kept c.self.inside.head c.self.inside.tail c.self.inside.next
    c.self.inside.chunks.made.count c.self.inside.chunks.given.count c.self.invariant c.args.next
    (omega (arith, before, given, c.self.invariant.given_is, c.self.invariant.in_tail))
    (omega (arith, given, c.requires.number, c.self.invariant.given_is)) there c.give_back.new.self.blocks.kept _ _ _ _
    back.kept back.counted.1 back.counted.0 back.counted.2 in
    (without.0, without.1 ∙ ap (passed g.row.N) c.self.view_is)

pub invariant_of-self : goal.invariant_of-self
invariant_of-self g c = (passes g (goal.at.invariant_of-self g c).After-give_back).0

pub returns : goal.returns
returns g c = (passes g (goal.at.returns g c).After-give_back).1
