use Rattle.std.proofs.Common.{[], refl, arith}
use Rattle.cml_report.proofs.KeptLemmas.{counted_none}
use Rattle.cml_report.proofs.follower.Follower.new.Goals as goal

pub invariant_of-result : goal.invariant_of-result
invariant_of-result c = record {
  within = omega arith;
  known = c.in_ok-plan.ensures.known;
  objects = c.in_ok-objects.ensures;
  counted = counted_none [] c.in_ok-counts.counts.items refl (c.in_ok-counts.ensures.items_if_clones_equal (λ y is. is));
  bound = c.in_ok-bindings.ensures;
}
