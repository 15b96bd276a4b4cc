use Rattle.std.proofs.Common.{◌≡◌, ◌+◌}
use Rattle.cml_threads.specs.{answers_in, seats_in}
use Rattle.cml_threads.proofs.hall.settling.gather.Given as goal

abbrev pub invariant-loop-left : goal.invariant-loop-left
invariant-loop-left g l =
    (l.answers + answers_in l.lefts.items ≡ answers_in l.fn.lefts.items)
    × (l.book.total ≡ l.initial.book.total)
    × (l.rest.amount ≡ l.initial.rest.amount + l.answers)
    × (l.rest.parts + seats_in l.lefts.items ≡ l.initial.rest.parts + seats_in l.fn.lefts.items)

abbrev pub decreases-loop-left : goal.decreases-loop-left
decreases-loop-left g l = goal.left-loop-left g l
