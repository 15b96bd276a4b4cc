use Rattle.std.proofs.Common.{arith}
use Rattle.cml_room.specs.{row_of}
use Rattle.cml_room.proofs.WalkingLemmas.{walk_ends, walk_stops}
use Rattle.cml_room.proofs.RousingLemmas.{row_begins, row_goes, not_so}
use Rattle.cml_room.proofs.waking.rouse_row.Goals as goal

pub loop-init : goal.loop-init
loop-init c = row_begins c.first_at-next.ensures.first

pub loop-preserved : goal.loop-preserved
loop-preserved c =
    row_goes c.in-Some.number (λ one other want source so. tt) c.loop.invariant c.in-Some.is c.rouse_here.ensures.roused
    c.rouse_here.ensures.rows c.rouse_here.ensures.due (λ waiter found so. c.rouse_here.ensures.this waiter found) c.after-next.ensures

pub returns-in_default-clause-roused : goal.returns-in_default-clause-roused
returns-in_default-clause-roused c = c.loop.invariant.roused

pub returns-in_default-clause-each : goal.returns-in_default-clause-each
returns-in_default-clause-each c =
    λ number waiter quiet here. not_so c.loop.invariant c.first_at-next.ensures.listed
    (walk_stops c.loop.invariant.walked c.in_default.is) number waiter quiet here tt

pub returns-in_default-clause-due : goal.returns-in_default-clause-due
returns-in_default-clause-due c = c.loop.invariant.due

pub returns-clause-roused : goal.returns-clause-roused
returns-clause-roused c = c.loop.invariant.roused

pub returns-clause-each : goal.returns-clause-each
returns-clause-each c =
    λ number waiter quiet here. not_so c.loop.invariant c.first_at-next.ensures.listed
    (walk_ends c.loop.invariant.walked (omega (arith, c.most-end.ensures (row_of c.args.source), c.loop-test.false))) number
    waiter quiet here tt

pub returns-clause-due : goal.returns-clause-due
returns-clause-due c = c.loop.invariant.due
