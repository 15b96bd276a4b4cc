use Rattle.cml_store.specs.World.{fresh, run}
use Rattle.cml_store.proofs.Reaching.{told, held, closed}
use Rattle.cml_store.proofs.Runs.{synced_through, stored_through}
use Rattle.cml_store.proofs.laws.marks_stay.Goals as goal

pub returns-clause-told : goal.returns-clause-told
returns-clause-told c whole front limit growth events none may is_open =
    let w = run whole front limit growth (fresh whole front limit growth) events in
    told limit whole w.store.stage w (held whole front limit growth events none may) is_open

pub returns-clause-whole : goal.returns-clause-whole
returns-clause-whole c whole front limit growth events none may =
    let m = (closed whole front limit growth events none may).marks in
    (m.order, m.within, m.whole_all, m.whole_stored, m.whole_synced)

pub returns-clause-synced : goal.returns-clause-synced
returns-clause-synced c whole front limit growth before later none may more =
    let w = run whole front limit growth (fresh whole front limit growth) before in
    let s = synced_through limit whole front growth none w later (held whole front limit growth before none may) more in
    (s.later, s.same)

pub returns-clause-stored : goal.returns-clause-stored
returns-clause-stored c whole front limit growth before later none may more keep =
    let w = run whole front limit growth (fresh whole front limit growth) before in
    let s = stored_through limit whole front growth none w later (held whole front limit growth before none may) more keep in
    (s.later, s.same)
