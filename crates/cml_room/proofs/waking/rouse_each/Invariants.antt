use Rattle.std.proofs.Common.{◌≡◌, true}
use Rattle.cml_room.specs.{row_of, reaches}
use Rattle.cml_room.proofs.RousingLemmas.{RowRoused}
use Rattle.cml_room.proofs.waking.rouse_each.Given as goal

abbrev pub invariant-loop : goal.invariant-loop
invariant-loop l = RowRoused (λ waiter. reaches l.object l.source waiter ≡ true) (row_of l.source) l.initial.seats l.seats l.next l.counter
