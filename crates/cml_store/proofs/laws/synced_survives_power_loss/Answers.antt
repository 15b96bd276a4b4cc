use Rattle.std.proofs.Common.{arith}
use Rattle.cml_store.specs.World.{fresh, run}
use Rattle.cml_store.proofs.Reaching.{closed, synced_within}
use Rattle.cml_store.proofs.Runs.{past, few}
use Rattle.cml_store.proofs.laws.synced_survives_power_loss.Goals as goal

pub returns-clause-safe : goal.returns-clause-safe
returns-clause-safe c whole front limit growth events none may left may_leave =
    let w = run whole front limit growth (fresh whole front limit growth) events in
    let k = closed whole front limit growth events none may in
    past limit whole front growth none w.synced w left k.marks (synced_within whole front limit growth events none may)
    k.marks.whole_synced (k.lasts left may_leave)

pub returns-clause-few : goal.returns-clause-few
returns-clause-few c whole front limit growth events none may left may_leave =
    let w = run whole front limit growth (fresh whole front limit growth) events in
    let k = closed whole front limit growth events none may in
    few limit whole front growth none w.synced w left k.marks (omega arith)
    (synced_within whole front limit growth events none may) k.marks.whole_synced
    (k.lasts left may_leave)
