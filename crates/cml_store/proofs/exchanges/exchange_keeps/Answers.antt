use Rattle.cml_store.proofs.Crossings.{reached}
use Rattle.cml_store.proofs.Standing.{lost, killed}
use Rattle.cml_store.proofs.exchanges.exchange_keeps.Goals as goal

pub returns-clause-lost : goal.returns-clause-lost
returns-clause-lost c whole front limit growth long short p means none is same is_new left has may_leave =
    lost whole front limit growth long short none means same p (reached whole front limit growth long short none p is) is_new left has
    may_leave

pub returns-clause-killed : goal.returns-clause-killed
returns-clause-killed c whole front limit growth long short p means none is same is_new left has may_read =
    killed whole front limit growth long short none means same p (reached whole front limit growth long short none p is) is_new left
    has may_read
