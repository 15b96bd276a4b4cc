use Rattle.std.proofs.Common.{◌≡◌, ◌++◌, drop, map}
use Rattle.std.specs.List.{filter_map}
use Rattle.cml_grammar.specs.{Declaration, source_of}
use Rattle.cml_chart.specs.{texts, shown_threads, thread_in, threads_in, feed_in, feeds_in, object_in, shown_made}
use Rattle.cml_chart.proofs.plan.fill.Given as goal

abbrev pub invariant-loop-declaration : goal.invariant-loop-declaration
invariant-loop-declaration l =
    let left = map (λ (d : Declaration). source_of d.line) (drop l.declaration-index l.declarations) in
    record {
      threads : shown_threads l.plan.threads.items ++ filter_map (thread_in l.script) left ≡ threads_in l.script;
      feeds : texts l.plan.feeds.items ++ filter_map feed_in left ≡ feeds_in l.script;
      objects : map shown_made l.plan.objects.items ++ filter_map object_in left ≡ filter_map object_in l.script.declarations;
      targets : l.plan.targets ≡ l.fn.plan.targets;
    }
