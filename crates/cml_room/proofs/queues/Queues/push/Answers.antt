use Rattle.std.proofs.Common.{◌≤◌, ◌∙◌, ap, arith}
use Rattle.cml_room.specs.Queues.{QueuesShown}
use Rattle.cml_room.proofs.RaisedLemmas.{in_now, pushed_now, other_now}
use Rattle.cml_room.proofs.queues.Queues.push.Goals as goal

pub push-requires-clause-nowhere : goal.push-requires-clause-nowhere
push-requires-clause-nowhere c row =
    let from : c.self.inside.first ≤ c.args.number = omega (arith, ap (λ (s : QueuesShown). s.first) c.self.view_is, c.requires.from) in
    in_now c.self.inside.first c.self.inside.dense c.args.self.now c.self.view_is row c.args.number from ∙ c.requires.nowhere row

pub returns-clause-here : goal.returns-clause-here
returns-clause-here c =
    let from : c.self.inside.first ≤ c.args.number = omega (arith, ap (λ (s : QueuesShown). s.first) c.self.view_is, c.requires.from) in
    pushed_now c.self.inside.first c.self.inside.dense c.args.self.now c.self.view_is c.push.new.self c.args.row c.args.number from
    c.push.ensures.here

pub returns-clause-others : goal.returns-clause-others
returns-clause-others c other apart =
    other_now c.self.inside.first c.self.inside.dense c.args.self.now c.self.view_is c.push.new.self other (c.push.ensures.others other
    apart)
