use Rattle.cml_report.specs.{is_object, makes_object}
use Rattle.cml_report.proofs.LineLemmas.{declaration_counted, declaration_object, names_objects, numbered_more}
use Rattle.cml_report.proofs.plan.number_objects.Goals as goal

pub loop-declaration-preserved : goal.loop-declaration-preserved
loop-declaration-preserved c =
    let script = c.args.script.now in
    let told = c.declarations-declarations.ensures in
    let so_far = c.loop-declaration.invariant in
    numbered_more (is_object script) script.declarations _ _ _ _ _ so_far
    (declaration_counted script (is_object script) makes_object
    (declaration_object script) _ _ _ _ c.declaration-item.result _ told.lines told.makes
    c.loop-declaration-test.true c.declaration-item.is (record { count = so_far.count; few = so_far.few }) c.from-objects.ensures
    c.makes_object.ensures)
    c.in_ok-push.ensures.items

pub returns-clause-named : goal.returns-clause-named
returns-clause-named c =
    names_objects c.args.script.now c.declarations-declarations.result.now c.declarations-declarations.ensures.lines
    c.declarations-declarations.ensures.names c.declarations-declarations.ensures.makes
