use Rattle.std.proofs.Common.{◌+◌, ◌-◌, ◌*◌, ◌/◌, ◌++◌, drop, sym, ap, ◌∙◌, arith}
use Rattle.std.specs.List.{slice_get}
use Rattle.cml_log.specs.{lent}
use Rattle.cml_log.proofs.LendingLemmas.{lent_more}
use Rattle.cml_log.proofs.chain.Chain.lend_from.Goals as goal

pub loop-place-preserved : goal.loop-place-preserved
loop-place-preserved g c =
    let now = c.loop-place.invariant in
    let start = g.row.N * c.args.self.now.given in
    let here = ap (λ p. slice_get (drop (p - start) c.args.self.now.items) 0) (sym now.place) ∙ c.item_at.ensures in
    let from = ap (λ p. p / g.row.N) now.place in
    let to = ap (λ p. p / g.row.N) c.walk_on-at.ensures.place in
    let next = ap (λ p. (p + 1) / g.row.N) now.place in
    record {
      holds = c.walk_on-at.ensures.holds;
      place = omega (arith, c.walk_on-at.ensures.place, now.place);
      end = now.end;
      walked = omega (arith, c.walk_on-at.ensures.walked, now.walked, from, to, next);
      lent = ap (λ items. lent items ++ drop (c.loop-place._place + 1 - start) c.args.self.now.items) c.push_reserved.ensures.items
          ∙ lent_more c.loop-place.items.items c.args.self.now.items _ (c.loop-place._place - start) now.lent
          (c.loop-place._place + 1 - start) c.item_at.result
          (omega (arith, c.requires.left, c.loop-place.auto._place)) here;
      room = omega (arith, c.push_reserved.ensures.len, c.push_reserved.ensures.capacity, now.room);
    }
