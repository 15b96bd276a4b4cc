use Rattle.std.proofs.Common.{◌≡◌, drop, map}
use Rattle.cml_chart.specs.{names_of, each_once, name_in, shown_threads}
use Rattle.cml_chart.proofs.chart.add_threads.Given as goal

abbrev pub invariant-loop-thread : goal.invariant-loop-thread
invariant-loop-thread l =
    each_once (names_of l.names.keys) (map name_in (shown_threads (drop l.thread-index l.threads)))
    ≡ each_once (names_of l.fn.names.keys) (map name_in (shown_threads l.threads))
