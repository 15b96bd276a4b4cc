use Rattle.cml_store.specs.World.{fresh, run}
use Rattle.cml_store.proofs.Holds.{read_part}
use Rattle.cml_store.proofs.Reaching.{closed}
use Rattle.cml_store.proofs.Runs.{past, few}
use Rattle.cml_store.proofs.laws.stored_survives_kills.Goals as goal

pub returns-clause-safe : goal.returns-clause-safe
returns-clause-safe c whole front limit growth events none may left may_read =
    let w = run whole front limit growth (fresh whole front limit growth) events in
    let k = closed whole front limit growth events none may in
    past limit whole front growth none w.stored w left k.marks k.marks.within k.marks.whole_stored
    (read_part limit whole w.store.stage w w.disk.seen left k k.seen may_read)

pub returns-clause-few : goal.returns-clause-few
returns-clause-few c whole front limit growth events none may left may_read =
    let w = run whole front limit growth (fresh whole front limit growth) events in
    let k = closed whole front limit growth events none may in
    few limit whole front growth none w.stored w left k.marks k.marks.order k.marks.within k.marks.whole_stored
    (read_part limit whole w.store.stage w w.disk.seen left k k.seen may_read)
