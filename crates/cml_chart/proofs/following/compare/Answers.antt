use Rattle.std.proofs.Common.{◌≡◌, ◌+◌, Some, sym, ap, ◌∙◌, arith, drop, map, length-drop}
use Rattle.std.proofs.lemmas.List.{length-map}
use Rattle.cml_chart.specs.{Fault, shown_object, shown_made}
use Rattle.cml_chart.proofs.FollowingLemmas.{uneven}
use Rattle.cml_chart.proofs.following.compare.Goals as goal

pub returns-then-made-objects-clause-fault : goal.returns-then-made-objects-clause-fault
returns-then-made-objects-clause-fault c =
    let at = c.loop-at.at in
    let fault = c.at-then-made-objects.ensures in
    let line = ap (λ (f : Fault). f.line) fault in
    let same : c.args.first + at ≡ c.at-then-made-objects.result.line = omega arith in
    let objects = drop at c.args.objects.now in
    let made = drop at c.args.made.now in
    let told = length-map objects shown_object ∙ length-drop at c.args.objects.now in
    let named = length-map made shown_made ∙ length-drop at c.args.made.now in (
      ap (λ (f : Fault). f.what) fault,
      sym c.loop-at.invariant.0
          ∙ uneven (c.args.first + at) (map shown_object objects) (map shown_made made) (omega arith) (omega arith) ∙ ap Some same,
    )

pub returns-in_default-clause-fault : goal.returns-in_default-clause-fault
returns-in_default-clause-fault c =
    let at = c.loop-at.at in
    let fault = c.at.ensures in
    let past = c.in_default.ensures.lookup.3 in
    let line = ap (λ (f : Fault). f.line) fault in
    let same : c.args.first + at ≡ c.at.result.line = omega arith in
    let objects = drop at c.args.objects.now in
    let made = drop at c.args.made.now in
    let told = length-map objects shown_object ∙ length-drop at c.args.objects.now in
    let named = length-map made shown_made ∙ length-drop at c.args.made.now in (
      ap (λ (f : Fault). f.what) fault,
      sym c.loop-at.invariant.0
          ∙ uneven (c.args.first + at) (map shown_object objects) (map shown_made made) (omega arith) (omega arith) ∙ ap Some same,
    )
