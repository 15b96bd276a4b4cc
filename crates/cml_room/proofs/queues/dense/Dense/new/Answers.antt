use Rattle.std.proofs.Common.{◌≡◌, List, [], subst, sym}
use Rattle.cml_room.specs.Queues.{queue_of}
use Rattle.cml_room.specs.Links.{shown_by}
use Rattle.cml_room.specs.declared.queues.links.Link.{Link}
use Rattle.cml_room.proofs.ShownLemmas.{new_linked, all_empty}
use Rattle.cml_room.proofs.queues.dense.Dense.new.Goals as goal

pub invariant_of-result : goal.invariant_of-result
invariant_of-result c = new_linked _ _ _ c.new.ensures.items (c.in_ok-vec.ensures.items_if_clones_equal (λ y same. same))

pub returns-clause-empty : goal.returns-clause-empty
returns-clause-empty c row =
    let P : List Link → Type 0 = λ l. queue_of (shown_by l c.in_ok-vec.field-0.items) row ≡ [] in
    subst P (sym c.new.ensures.items) (all_empty c.in_ok-vec.field-0.items row)
