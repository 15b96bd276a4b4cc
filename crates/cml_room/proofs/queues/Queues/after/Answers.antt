use Rattle.std.proofs.Common.{ap, ◌∙◌, sym, arith}
use Rattle.std.specs.Prelude.{◌+◌}
use Rattle.std.specs.Option.{option_map}
use Rattle.cml_room.proofs.RaisedLemmas.{parted_now, after_now}
use Rattle.cml_room.proofs.queues.Queues.after.Goals as goal

pub returns-then-number-self-clause-next : goal.returns-then-number-self-clause-next
returns-then-number-self-clause-next c row xs ys parts =
    let split = parted_now c.self.inside.first c.self.inside.dense c.args.self.now c.self.view_is row xs ys c.args.number parts in
    absurd (omega (arith, split.from, c.if-number-self.true))

pub returns-in-Some-clause-next : goal.returns-in-Some-clause-next
returns-in-Some-clause-next c row xs ys parts =
    ap (option_map (λ n. c.self.inside.first + n)) (sym c.in-Some.is)
    ∙ after_now c.self.inside.first c.self.inside.dense c.args.self.now c.self.view_is c.args.number c.after.result c.after.ensures.next
    row xs ys parts

pub returns-in-None-clause-next : goal.returns-in-None-clause-next
returns-in-None-clause-next c row xs ys parts =
    ap (option_map (λ n. c.self.inside.first + n)) (sym c.in-None.is)
    ∙ after_now c.self.inside.first c.self.inside.dense c.args.self.now c.self.view_is c.args.number c.after.result c.after.ensures.next
    row xs ys parts
