use Rattle.std.proofs.Common.{ap, sym, length, arith}
use Rattle.cml_report.specs.{Progress, history_of}
use Rattle.cml_report.proofs.FollowerLemmas.{followed_at, thread_seat}
use Rattle.cml_report.proofs.follower.Follower.next_given.Goals as goal

pub given-requires : goal.given-requires
given-requires c =
    let follower = c.args.self.now in
    let seats = (followed_at c.self.view_is c.self.invariant).known.seats in
    let next =
    thread_seat follower.script (history_of follower) c.args.who c.in_ok-next_step.field-0 seats (sym c.in_ok-next_step.ensures) in
    omega (arith, next.3, ap (λ (p : Progress). length p.script.steps) c.self.view_is)
