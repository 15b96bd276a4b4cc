use Rattle.std.proofs.Common.{◌<◌, ℕ, List, length, subst, sym, ap, ◌∙◌}
use Rattle.cml_room.specs.Queues.{has}
use Rattle.cml_room.specs.declared.queues.links.Link.{Link}
use Rattle.cml_room.proofs.ChangesLemmas.{parted, still}
use Rattle.cml_room.proofs.RowsLemmas.{linked}
use Rattle.cml_room.proofs.ShownLemmas.{is_row, left_nowhere, member_within, removes, unlink_previous, here_is, others_are}
use Rattle.cml_room.proofs.queues.dense.Dense.remove.Goals as goal

pub unlink-requires-clause-number : goal.unlink-requires-clause-number
unlink-requires-clause-number c =
    let P : List Link → Type 0 = λ l. c.args.number < length l in
    subst P (sym c.deref_mut.ensures.value) (member_within _ _ _ c.self.view_is c.self.invariant _ _ c.requires)

pub unlink-requires-clause-previous : goal.unlink-requires-clause-previous
unlink-requires-clause-previous c =
    let parts = parted _ _ c.requires in
    unlink_previous _ _ _ c.self.view_is c.self.invariant _ _ _ _ c.deref_mut.ensures.value c.index_mut.ensures.value _ _ parts.2

pub invariant_of-self : goal.invariant_of-self
invariant_of-self c =
    let parts = parted _ _ c.requires in
    let removed =
    removes _ _ _ c.self.view_is c.self.invariant _ _ _ _ c.deref_mut.ensures.value c.index_mut.ensures.value _ _ _ c.self.inside.links.ok.0
    parts.0 parts.1 parts.2 c.unlink.ensures.links c.unlink.ensures.ends in
    linked _ _ _ removed

pub returns-clause-here : goal.returns-clause-here
returns-clause-here c xs ys parts =
    let removed =
    removes _ _ _ c.self.view_is c.self.invariant _ _ _ _ c.deref_mut.ensures.value c.index_mut.ensures.value _ _ _ c.self.inside.links.ok.0
    xs ys parts c.unlink.ensures.links c.unlink.ensures.ends in
    here_is _ _ _ _ _ removed (is_row _ _ _ c.requires)

pub returns-clause-gone : goal.returns-clause-gone
returns-clause-gone c =
    let parts = parted _ _ c.requires in
    let removed =
    removes _ _ _ c.self.view_is c.self.invariant _ _ _ _ c.deref_mut.ensures.value c.index_mut.ensures.value _ _ _ c.self.inside.links.ok.0
    parts.0 parts.1 parts.2 c.unlink.ensures.links c.unlink.ensures.ends in
    left_nowhere _ _ _ c.self.view_is c.self.invariant _ _ _ _ _ _ parts.2 removed c.args.row

pub returns-clause-nowhere : goal.returns-clause-nowhere
returns-clause-nowhere c =
    let parts = parted _ _ c.requires in
    let removed =
    removes _ _ _ c.self.view_is c.self.invariant _ _ _ _ c.deref_mut.ensures.value c.index_mut.ensures.value _ _ _ c.self.inside.links.ok.0
    parts.0 parts.1 parts.2 c.unlink.ensures.links c.unlink.ensures.ends in
    left_nowhere _ _ _ c.self.view_is c.self.invariant _ _ _ _ _ _ parts.2 removed

pub returns-clause-kept : goal.returns-clause-kept
returns-clause-kept c other apart =
    let parts = parted _ _ c.requires in
    let removed =
    removes _ _ _ c.self.view_is c.self.invariant _ _ _ _ c.deref_mut.ensures.value c.index_mut.ensures.value _ _ _ c.self.inside.links.ok.0
    parts.0 parts.1 parts.2 c.unlink.ensures.links c.unlink.ensures.ends in
    let left = here_is _ _ _ _ _ removed (is_row _ _ _ c.requires) in
    ap (λ (l : List ℕ). has l other) left ∙ still parts.0 parts.1 c.args.number other apart ∙ ap (λ (l : List ℕ). has l other) (sym parts.2)

pub returns-clause-others : goal.returns-clause-others
returns-clause-others c =
    let parts = parted _ _ c.requires in
    let removed =
    removes _ _ _ c.self.view_is c.self.invariant _ _ _ _ c.deref_mut.ensures.value c.index_mut.ensures.value _ _ _ c.self.inside.links.ok.0
    parts.0 parts.1 parts.2 c.unlink.ensures.links c.unlink.ensures.ends in
    others_are _ _ _ _ _ removed
