use Rattle.std.specs.Prelude.{⊤}
use Rattle.cml_room.specs.{row_of}
use Rattle.cml_room.proofs.RousingLemmas.{RowRoused}
use Rattle.cml_room.proofs.waking.rouse_row.Given as goal

abbrev pub invariant-loop : goal.invariant-loop
invariant-loop l = RowRoused (λ waiter. ⊤) (row_of l.source) l.initial.seats l.seats l.next l.counter
