use Rattle.std.proofs.Common.{◌+◌, ◌∙◌, ap, sym, slice_get}
use Rattle.cml_board.specs.declared.entry.Who.TheVariants.{Seat}
use Rattle.cml_report.specs.{positions_from, next_position, Progress, history_of}
use Rattle.cml_report.proofs.KeptLemmas.{count_at}
use Rattle.cml_report.proofs.FollowerLemmas.{followed_at, none_next}
use Rattle.cml_report.proofs.follower.Follower.next_step.Goals as goal

pub returns-in_err-thread : goal.returns-in_err-thread
returns-in_err-thread c =
    let follower = c.args.self.now in
    c.from_residual.ensures ∙ sym (none_next follower.script (history_of follower) c.args.who
    (followed_at c.self.view_is c.self.invariant).known.seats c.in_err-thread.ensures)

pub returns : goal.returns
returns c =
    let follower = c.args.self.now in
    let thread = c.in_ok-thread.thread in
    let is = c.in_ok-thread.ensures in
    let script = c.self.inside.plan in
    c.step.ensures
    ∙ ap (slice_get (positions_from script (thread + 1) 0 script.steps))
    (count_at _ c.self.inside.counts.items thread c.index.result.now c.self.invariant.counted is.0 c.index.ensures)
    ∙ ap (λ (p : Progress). next_position p.script (history_of p) (Seat (thread + 1))) c.self.view_is
    ∙ ap (next_position follower.script (history_of follower)) (sym is.1)
