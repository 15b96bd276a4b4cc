use Rattle.std.proofs.Common.{◌⊎◌, ⊎_elim}
use Rattle.cml_store.specs.Disk.{MayLeave}
use Rattle.cml_store.specs.World.{fresh, run, MayRead}
use Rattle.cml_store.proofs.Holds.{read_part}
use Rattle.cml_store.proofs.Reaching.{closed}
use Rattle.cml_store.proofs.Runs.{not_refused}
use Rattle.cml_store.proofs.laws.nothing_left_is_refused.Goals as goal

pub returns : goal.returns
returns c whole front limit growth events none fronts may left =
    let w = run whole front limit growth (fresh whole front limit growth) events in
    let k = closed whole front limit growth events none may in
    λ (which : MayLeave w.disk left ⊎ MayRead whole front limit growth w left).
    ⊎_elim
    (λ (lost : MayLeave w.disk left). not_refused limit whole front growth none w.synced w left k.marks fronts (k.lasts left lost))
    (λ (killed : MayRead whole front limit growth w left).
    not_refused limit whole front growth none w.stored w left k.marks fronts
    (read_part limit whole w.store.stage w w.disk.seen left k k.seen killed))
    which
