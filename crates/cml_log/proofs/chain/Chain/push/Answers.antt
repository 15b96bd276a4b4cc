use Rattle.std.proofs.Common.{◌<◌, [], refl, sym, ap, subst, ◌∙◌, arith}
use Rattle.cml_log.specs.{end_of, Pushed}
use Rattle.cml_log.proofs.ChainLemmas.{shown, shown-at, IsChain-at, end_shown, slot_is, within, IsChain-pushed, Pushed-within}
use Rattle.cml_log.proofs.ChainLemmas.{tail_grown, slot_grown, tail_written, IsChain-grown, Pushed-grown}
use Rattle.cml_log.proofs.chain.Chain.push.Goals as goal

pub write-requires : goal.write-requires
write-requires g c = (
  omega arith,
  (
    c.self.invariant.linked.finishes,
    (
      slot_is c.self.inside.chunks.blocks.kept c.self.inside.head c.self.inside.tail c.self.inside.next c.self.inside.chunks.made.count
          c.self.inside.chunks.given.count c.self.invariant,
      within c.self.inside.chunks.blocks.kept c.self.inside.head c.self.inside.tail c.self.inside.next c.self.inside.chunks.made.count
          c.self.inside.chunks.given.count c.self.invariant,
    ),
  ),
)

pub invariant_of-self : goal.invariant_of-self
invariant_of-self g c =
    let end = ap (end_of g.row.N) (sym c.self.view_is)
    ∙ end_shown c.self.inside.chunks.blocks.kept c.self.inside.head c.self.inside.tail c.self.inside.next c.self.inside.chunks.made.count
    c.self.inside.chunks.given.count c.self.invariant c.self.inside.chunks.followed.count in
    let counts = c.write.ensures.counts in
    IsChain-at _ _ _ _ _ _ _ _
    (IsChain-pushed c.self.inside.chunks.blocks.kept c.self.inside.head c.self.inside.tail c.self.inside.next
    c.self.inside.chunks.made.count c.self.inside.chunks.given.count c.self.invariant c.write.new.self.blocks.kept c.args.item
    c.write.ensures.rewrites c.if-slot.true (subst (λ n. n < 18446744073709551614) end c.requires))
    counts.made counts.given

pub returns-then-slot-clause-ok : goal.returns-then-slot-clause-ok
returns-then-slot-clause-ok g c =
    let counts = c.write.ensures.counts in
    let same =
    shown-at c.write.new.self.blocks.kept c.self.inside.chunks.made.count c.self.inside.chunks.given.count
    c.self.inside.chunks.followed.count _ _ _ counts.made counts.given counts.followed in
    subst (λ new. Pushed g.row.N c.args.self.now new c.args.item) (sym same)
    (subst (λ m. Pushed g.row.N m (shown c.write.new.self.blocks.kept c.self.inside.chunks.made.count c.self.inside.chunks.given.count
    c.self.inside.chunks.followed.count) c.args.item) c.self.view_is
    (Pushed-within c.self.inside.chunks.blocks.kept c.self.inside.head c.self.inside.tail c.self.inside.next c.self.inside.chunks.made.count
    c.self.inside.chunks.given.count c.self.invariant c.write.new.self.blocks.kept c.args.item c.write.ensures.rewrites
    c.self.inside.chunks.followed.count))

pub write-requires-2 : goal.write-requires-2
write-requires-2 g c =
    let made = c.in-Ok.ensures in
    let more = c.in-Ok.next in (
      omega arith,
      (
        tail_grown c.self.inside.chunks.blocks.kept c.self.inside.head c.self.inside.tail c.self.inside.next c.self.inside.chunks.made.count
            c.self.inside.chunks.given.count c.self.invariant c.make.new.self.blocks.kept [] [] more _ c.args.item made.kept,
        (
          slot_grown c.self.inside.chunks.blocks.kept c.self.inside.head c.self.inside.tail c.self.inside.next
              c.self.inside.chunks.made.count c.self.inside.chunks.given.count c.self.invariant c.make.new.self.blocks.kept
              [] [] more _ c.args.item made.kept,
          within c.self.inside.chunks.blocks.kept c.self.inside.head c.self.inside.tail c.self.inside.next c.self.inside.chunks.made.count
              c.self.inside.chunks.given.count c.self.invariant,
        ),
      ),
    )

pub set_link-requires : goal.set_link-requires
set_link-requires g c =
    let made = c.in-Ok.ensures in (
      omega arith,
      (
        omega (arith, made.number),
        tail_written c.self.inside.chunks.blocks.kept c.self.inside.head c.self.inside.tail c.self.inside.next
            c.self.inside.chunks.made.count c.self.inside.chunks.given.count c.self.invariant c.make.new.self.blocks.kept
            c.write-2.new.self.blocks.kept [] c.in-Ok.next _ c.args.item made.kept c.write-2.ensures.rewrites,
      ),
    )

pub invariant_of-self-2 : goal.invariant_of-self-2
invariant_of-self-2 g c =
    let end = ap (end_of g.row.N) (sym c.self.view_is)
    ∙ end_shown c.self.inside.chunks.blocks.kept c.self.inside.head c.self.inside.tail c.self.inside.next c.self.inside.chunks.made.count
    c.self.inside.chunks.given.count c.self.invariant c.self.inside.chunks.followed.count in
    let made = c.in-Ok.ensures in
    let wrote = c.write-2.ensures in
    let linked = c.set_link.ensures in
    let slot = within c.self.inside.chunks.blocks.kept c.self.inside.head c.self.inside.tail c.self.inside.next
    c.self.inside.chunks.made.count c.self.inside.chunks.given.count c.self.invariant in
    IsChain-at _ _ _ _ _ _ _ _
    (IsChain-grown c.self.inside.chunks.blocks.kept c.self.inside.head c.self.inside.tail c.self.inside.next c.self.inside.chunks.made.count
    c.self.inside.chunks.given.count c.self.invariant c.make.new.self.blocks.kept c.write-2.new.self.blocks.kept
    c.set_link.new.self.blocks.kept c.in-Ok.next _ c.args.item made.kept wrote.rewrites
    made.number refl linked.rewrites (omega (arith, slot, c.if-slot.false)) c.make.new.self.made.count made.counted.0
    (subst (λ n. n < 18446744073709551614) end c.requires))
    (linked.counts.made ∙ wrote.counts.made) (linked.counts.given ∙ wrote.counts.given ∙ made.counted.1)

pub returns-clause-ok : goal.returns-clause-ok
returns-clause-ok g c =
    let made = c.in-Ok.ensures in
    let wrote = c.write-2.ensures in
    let linked = c.set_link.ensures in
    let slot = within c.self.inside.chunks.blocks.kept c.self.inside.head c.self.inside.tail c.self.inside.next
    c.self.inside.chunks.made.count c.self.inside.chunks.given.count c.self.invariant in
    let same =
    shown-at c.set_link.new.self.blocks.kept c.make.new.self.made.count c.self.inside.chunks.given.count
    c.self.inside.chunks.followed.count _ _ _
    (linked.counts.made ∙ wrote.counts.made) (linked.counts.given ∙ wrote.counts.given ∙ made.counted.1)
    (linked.counts.followed ∙ wrote.counts.followed ∙ made.counted.2) in
    subst (λ new. Pushed g.row.N c.args.self.now new c.args.item) (sym same)
    (subst (λ m. Pushed g.row.N m (shown c.set_link.new.self.blocks.kept c.make.new.self.made.count c.self.inside.chunks.given.count
    c.self.inside.chunks.followed.count) c.args.item) c.self.view_is
    (Pushed-grown c.self.inside.chunks.blocks.kept c.self.inside.head c.self.inside.tail c.self.inside.next c.self.inside.chunks.made.count
    c.self.inside.chunks.given.count c.self.invariant c.make.new.self.blocks.kept c.write-2.new.self.blocks.kept
    c.set_link.new.self.blocks.kept c.in-Ok.next _ c.args.item made.kept wrote.rewrites
    made.number refl linked.rewrites (omega (arith, slot, c.if-slot.false)) c.make.new.self.made.count c.self.inside.chunks.followed.count))
