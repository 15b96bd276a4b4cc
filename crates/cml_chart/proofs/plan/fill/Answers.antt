use Rattle.std.proofs.Common.{◌∙◌}
use Rattle.cml_grammar.specs.{Declaration, source_of}
use Rattle.cml_chart.specs.{thread_in, feed_in, object_in}
use Rattle.cml_chart.proofs.FollowingLemmas.{grown_at}
use Rattle.cml_chart.proofs.plan.fill.Goals as goal

pub loop-declaration-preserved : goal.loop-declaration-preserved
loop-declaration-preserved c =
    let l = c.loop-declaration in
    let line = λ (d : Declaration). source_of d.line in
    let declared = c.declarations-declarations.result.now in
    let d = c.declaration-item in
    let added = c.in_ok-add_declared.ensures in
    record {
      threads = grown_at line (thread_in c.args.script.now) declared l.declaration-index d.result _ _ _ c.loop-declaration-test.true d.is
          added.threads l.invariant.threads;
      feeds =
          grown_at line feed_in declared l.declaration-index d.result _ _ _ c.loop-declaration-test.true d.is added.feeds l.invariant.feeds;
      objects = grown_at line object_in declared l.declaration-index d.result _ _ _ c.loop-declaration-test.true d.is
          added.objects l.invariant.objects;
      targets = added.targets ∙ l.invariant.targets;
    }
