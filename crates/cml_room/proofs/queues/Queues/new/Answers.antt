use Rattle.std.proofs.Common.{ap, ◌∙◌}
use Rattle.cml_room.specs.Queues.{raised}
use Rattle.cml_room.proofs.RaisedLemmas.{queue_raised}
use Rattle.cml_room.proofs.queues.Queues.new.Goals as goal

pub returns-clause-empty : goal.returns-clause-empty
returns-clause-empty c row =
    queue_raised c.args.first c.in_ok-dense.dense row ∙ ap (raised c.args.first) (c.in_ok-dense.ensures.empty row)
