use Rattle.std.proofs.Common.{◌≤◌, ◌/◌, sym, subst, arith}
use Rattle.std.proofs.lemmas.Bool.{ltb-false}
use Rattle.cml_log.specs.{IsBare, end_of}
use Rattle.cml_log.proofs.BlockLemmas.{IsBare-gone}
use Rattle.cml_log.proofs.ChainLemmas.{end_shown, gone_with_head}
use Rattle.cml_log.proofs.chain.Chain.close.Goals as goal

pub done-requires : goal.done-requires
done-requires g c =
    let last = subst (λ m. end_of g.row.N m / g.row.N ≤ m.given) (sym c.self.view_is) (ltb-false _ _ c.requires) in
    let end = end_shown c.self.inside.chunks.blocks.kept c.self.inside.head c.self.inside.tail c.self.inside.next
    c.self.inside.chunks.made.count c.self.inside.chunks.given.count c.self.invariant c.self.inside.chunks.followed.count in
    let only = subst (λ n. n / g.row.N ≤ c.self.inside.chunks.given.count) end last in (
      omega arith,
      subst IsBare (sym c.give_back.ensures.kept)
          (IsBare-gone _ (gone_with_head c.self.inside.chunks.blocks.kept c.self.inside.head c.self.inside.tail c.self.inside.next
          c.self.inside.chunks.made.count c.self.inside.chunks.given.count c.self.invariant
          (omega (arith, only, c.self.invariant.in_tail, c.self.invariant.given_is)))),
    )
