use Rattle.std.proofs.Common.{◌≡◌, ◌+◌, drop, map}
use Rattle.cml_chart.specs.{shown_act, texts, names_of, shown_threads, follow}
use Rattle.cml_chart.proofs.following.follow.Given as goal

abbrev pub invariant-loop-at : goal.invariant-loop-at
invariant-loop-at l =
    follow (texts l.feeds) (names_of l.targets.keys) (shown_threads l.threads.items) (l.at + 1) (map shown_act (drop l.at l.acts))
    ≡ follow (texts l.feeds) (names_of l.targets.keys) (shown_threads l.fn.threads.items) 1 (map shown_act l.acts)
