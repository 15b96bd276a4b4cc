use Rattle.std.proofs.Common.{false, ap}
use Rattle.cml_store.specs.Exchange.{counted, ended_at, move_of}
use Rattle.cml_store.specs.Pair.{crossing, name_ended}
use Rattle.cml_store.proofs.Crossings.{stays_left}
use Rattle.cml_store.proofs.exchanges.failed_renaming_keeps_the_old_file.Goals as goal

pub returns-clause-step : goal.returns-clause-step
returns-clause-step c whole front limit growth long short p is = (
  ap (λ way. ended_at way false) is,
  ap (λ way. name_ended (move_of way) false p.name) is,
  ap (λ way. counted (crossing long short (ended_at way false)) p.old.synced p.new.synced) is,
  ap (λ way. counted (crossing long short (ended_at way false)) p.old.stored p.new.stored) is,
)

pub returns-clause-stays : goal.returns-clause-stays
returns-clause-stays c whole front limit growth long short p later is named may =
    stays_left whole front limit growth long short p later (is, named) may
