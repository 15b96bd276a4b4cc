use Rattle.std.proofs.Common.{subst}
use Rattle.cml_store.specs.World.{fresh, run}
use Rattle.cml_store.proofs.Holds.{Under}
use Rattle.cml_store.proofs.Reaching.{closed}
use Rattle.cml_store.proofs.laws.stores_lie_inside.Goals as goal

pub returns : goal.returns
returns c whole front limit growth events from to none may is =
    let w = run whole front limit growth (fresh whole front limit growth) events in
    let k = closed whole front limit growth events none may in
    let u = subst (λ step. Under limit whole w.text w.disk.seen w.stored w.store.stored w.store.grown step) is k.under in
    (u.0, u.2)
