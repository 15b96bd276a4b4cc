use Rattle.std.proofs.Common.{length, ap, arith}
use Rattle.std.proofs.lemmas.List.{length-map}
use Rattle.cml_grammar.specs.{Declaration, names_of, source_of}
use Rattle.cml_script.proofs.DeclareLemmas.{nothing_declared, made_more, read_of_plan, well_fitted, declares, refuses}
use Rattle.cml_report.proofs.KindLemmas.{well_declared}
use Rattle.cml_script.proofs.declaring.declare.Goals as goal

pub loop-declaration-init : goal.loop-declaration-init
loop-declaration-init g c = record {
  goes_on = c.requires.goes_on;
  declaring = nothing_declared c.args.plan.now _ c.requires.begins;
}

pub make-requires-clause-declared : goal.make-requires-clause-declared
make-requires-clause-declared g c =
    let script = c.args.plan.now in
    let d = c.declaration-item.result in
    let told = c.declarations-declaration-items.ensures in
    let read = read_of_plan script c.script.result.now c.declarations-declaration-items.result.now c.loop-declaration.declaration-index d
    c.script.ensures told.lines told.makes told.names c.loop-declaration-test.true c.declaration-item.is in
    well_declared script c.loop-declaration.declaration-index d.makes read.within read.well

pub make-requires-clause-capacity : goal.make-requires-clause-capacity
make-requires-clause-capacity g c =
    let script = c.args.plan.now in
    let d = c.declaration-item.result in
    let told = c.declarations-declaration-items.ensures in
    let read = read_of_plan script c.script.result.now c.declarations-declaration-items.result.now c.loop-declaration.declaration-index d
    c.script.ensures told.lines told.makes told.names c.loop-declaration-test.true c.declaration-item.is in
    well_fitted (names_of script) c.loop-declaration.declaration-index d.makes read.well

pub returns-in_err-make : goal.returns-in_err-make
returns-in_err-make g c =
    refuses c.args.plan.now c.loop-declaration.invariant.declaring c.from_residual.result c.in_err-make.field-0.0
    (g.C.Caller.made c.make.new.caller) c.from_residual.ensures.1 c.in_err-make.ensures.refused

pub loop-declaration-preserved : goal.loop-declaration-preserved
loop-declaration-preserved g c =
    let script = c.args.plan.now in
    let d = c.declaration-item.result in
    let told = c.declarations-declaration-items.ensures in
    let read = read_of_plan script c.script.result.now c.declarations-declaration-items.result.now c.loop-declaration.declaration-index d
    c.script.ensures told.lines told.makes told.names c.loop-declaration-test.true c.declaration-item.is in
    let later = g.C.Caller.made c.make.new.caller in
    record {
      goes_on = c.in_ok-make.ensures.goes_on;
      declaring = made_more script c.requires.known c.loop-declaration.invariant.declaring d read.line read.reads later read.well
          c.in_ok-make.ensures.made;
    }

pub returns : goal.returns
returns g c =
    let items = c.declarations-declaration-items.result.now in
    let told = rw c.script.ensures at c.declarations-declaration-items.ensures in
    let long = length-map items (λ (x : Declaration). source_of x.line) in
    declares c.args.plan.now c.loop-declaration.invariant.declaring
    (omega (arith, c.loop-declaration-test.false, ap length told.lines, long))
