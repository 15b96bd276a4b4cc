use Rattle.std.proofs.Common.{rules, subst}
use Rattle.cml_queueing.specs.{Place, ServesInOrder}
use Rattle.cml_queueing.proofs.StationLemmas.{served_in_order}
use Rattle.cml_queueing.proofs.station.Station.served.Goals as goal

pub returns : goal.returns
returns c =
    subst (λ (p : Place). ServesInOrder p c.unwrap_or.result) c.self.view_is
    (served_in_order c.self.inside.board c.self.inside.servers c.unwrap_or.result
    c.journal-entries.ensures.sound.mailboxes c.self.invariant (search rules))
