use Rattle.std.proofs.Common.{ℕ, ap, ◌∙◌, inl, inr}
use Rattle.std.specs.Prelude.{Vec}
use Rattle.std.specs.Global.{Global}
use Rattle.cml_report.specs.{is_object, makes_object}
use Rattle.cml_report.proofs.LineLemmas.{declaration_object}
use Rattle.cml_report.proofs.QueueLemmas.{declaration_listed}
use Rattle.cml_report.proofs.objects.list_places.Goals as goal
use Rattle.cml_report.proofs.objects.list_places.Goals.{then-makes_object+in_ok-push, else-makes_object}

pub loop-at-preserved : goal.loop-at-preserved
loop-at-preserved c =
    let told = c.declarations-declaration-items.ensures in
    declaration_listed c.args.script.now (is_object c.args.script.now) makes_object
    (declaration_object c.args.script.now) c.declarations-declaration-items.result.now
    c.loop-at.at c.declaration-item.result c.makes_object.result c.loop-at.places.items c.if-makes_object.places.items
    told.lines told.makes c.loop-at-test.true
    c.declaration-item.is c.loop-at.invariant c.makes_object.ensures
    (elim c.if-makes_object.branch [
      | then-makes_object+in_ok-push w ↦
          inl (w.if-makes_object.true, ap (λ (v : Vec ℕ Global). v.items) w.places-is ∙ w.in_ok-push.ensures.items)
      | else-makes_object w ↦ inr (w.if-makes_object.false, ap (λ (v : Vec ℕ Global). v.items) w.places-is)
    ])
