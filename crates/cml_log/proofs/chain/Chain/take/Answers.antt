use Rattle.std.proofs.Common.{◌+◌, ◌-◌, ◌*◌, ◌<◌, ◌≤◌, length, drop, sym, ap, subst, ◌∙◌, arith}
use Rattle.std.specs.List.{slice_get}
use Rattle.cml_log.specs.{Chunks, Rewrites, row_at, with_taken, LiesAt}
use Rattle.cml_log.proofs.BlockLemmas.{kept_where_lies}
use Rattle.cml_log.proofs.ChainLemmas.{item_shown, left_there, head_written, IsChain-at, shown-at, IsChain-taken, shown-taken}
use Rattle.cml_log.proofs.chain.Chain.take.Goals.{After-take}
use Rattle.cml_log.proofs.chain.Chain.take.Goals as goal

pub take-requires : goal.take-requires
take-requires g c =
    let there = kept_where_lies c.self.inside.chunks.blocks.kept c.args.at.number c.args.at.at
    (subst (λ m. LiesAt m.cells c.args.at.number c.args.at.at) (sym c.self.view_is) c.requires.lies) in
    let given = c.requires.head ∙ ap (λ m. m.given) (sym c.self.view_is) in
    let low = subst (λ m. m.taken ≤ c.args.slot) (sym c.self.view_is) c.requires.left in
    let inside = subst (λ m. c.args.slot < length m.items) (sym c.self.view_is) c.requires.written in
    let written = head_written c.self.inside.chunks.blocks.kept c.self.inside.head c.self.inside.tail c.self.inside.next
    c.self.inside.chunks.made.count c.self.inside.chunks.given.count c.self.invariant c.args.slot c.requires.within inside in (
      omega arith,
      (
        there,
        (
          left_there c.self.inside.chunks.blocks.kept c.self.inside.head c.self.inside.tail c.self.inside.next
              c.self.inside.chunks.made.count c.self.inside.chunks.given.count c.self.invariant c.args.at.number c.args.at.at c.args.slot
              there (omega (arith, low, ap (λ n. g.row.N * n) given)),
          (
            subst (λ n. c.args.slot < length (row_at c.self.inside.chunks.blocks.kept n)) (sym (given ∙ c.self.invariant.given_is)) written,
            c.requires.within,
          ),
        ),
      ),
    )

-- the item was moved out of the head
takes : (g : _) (c : After-take g) → Rewrites c.self.inside.chunks.blocks.kept c.take.new.self.blocks.kept c.self.inside.head.number
    c.args.at.at (with_taken (c.args.slot + 1))
takes g c =
    subst (λ n. Rewrites c.self.inside.chunks.blocks.kept c.take.new.self.blocks.kept n c.args.at.at (with_taken (c.args.slot + 1)))
    (c.requires.head ∙ ap (λ m. m.given) (sym c.self.view_is) ∙ c.self.invariant.given_is) c.take.ensures.rewrites

pub invariant_of-self : goal.invariant_of-self
invariant_of-self g c =
    let at = goal.at.invariant_of-self g c in
    IsChain-at _ _ _ _ _ _ _ _
    (IsChain-taken c.self.inside.chunks.blocks.kept c.self.inside.head c.self.inside.tail c.self.inside.next
    c.self.inside.chunks.made.count c.self.inside.chunks.given.count c.self.invariant _ c.args.at.at _ (takes g at.After-take))
    c.take.ensures.counts.made c.take.ensures.counts.given

pub returns-clause-item : goal.returns-clause-item
returns-clause-item g c =
    let there = kept_where_lies c.self.inside.chunks.blocks.kept c.args.at.number c.args.at.at
    (subst (λ m. LiesAt m.cells c.args.at.number c.args.at.at) (sym c.self.view_is) c.requires.lies) in
    let shows = item_shown c.self.inside.chunks.blocks.kept c.self.inside.head c.self.inside.tail c.self.inside.next
    c.self.inside.chunks.made.count c.self.inside.chunks.given.count c.self.invariant c.args.at.number c.args.at.at c.args.slot
    c.requires.within there in
    sym (ap (λ m. slice_get (drop (g.row.N * (c.args.at.number - m.given)) m.items) c.args.slot) c.self.view_is)
    ∙ sym shows ∙ c.take.ensures.item

pub returns-clause-taken : goal.returns-clause-taken
returns-clause-taken g c =
    let at = goal.at.returns-clause-taken g c in
    let counts = c.take.ensures.counts in
    shown-at _ c.self.inside.chunks.made.count c.self.inside.chunks.given.count c.self.inside.chunks.followed.count _ _ _
    counts.made counts.given counts.followed
    ∙ shown-taken c.self.inside.chunks.blocks.kept c.self.inside.head c.self.inside.tail c.self.inside.next
    c.self.inside.chunks.made.count c.self.inside.chunks.given.count c.self.invariant _ c.args.at.at _ (takes g at.After-take)
    c.self.inside.chunks.followed.count
    ∙ ap (λ (m : Chunks g.row.T.Denot). record m { taken = c.args.slot + 1 }) c.self.view_is
