use Rattle.cml_room.proofs.RaisedLemmas.{short_now}
use Rattle.cml_room.proofs.queues.Queues.most.Goals as goal

pub returns-clause-enough : goal.returns-clause-enough
returns-clause-enough c row =
    short_now c.self.inside.first c.self.inside.dense c.args.self.now c.self.view_is row c.bound.result (c.bound.ensures.enough row)
