use Rattle.cml_report.specs.{is_object, makes_object}
use Rattle.cml_report.proofs.LineLemmas.{declaration_counted, declaration_object}
use Rattle.cml_report.proofs.plan.count_objects.Goals as goal

pub loop-declaration-preserved : goal.loop-declaration-preserved
loop-declaration-preserved c =
    let script = c.args.script.now in
    let told = c.declarations-declaration-items.ensures in
    declaration_counted script (is_object script) makes_object
    (declaration_object script) _ _ _ _ c.declaration-item.result _ told.lines told.makes
    c.loop-declaration-test.true c.declaration-item.is c.loop-declaration.invariant c.from-objects.ensures c.makes_object.ensures
