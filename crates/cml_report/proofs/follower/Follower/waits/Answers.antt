use Rattle.std.proofs.Common.{◌+◌, Some, None, arith}
use Rattle.std.proofs.lemmas.Bool.{false≢true}
use Rattle.cml_board.specs.declared.entry.Who.TheVariants.{Seat}
use Rattle.cml_report.specs.{history_of}
use Rattle.cml_report.proofs.FollowerLemmas.{uses_next, calls_next}
use Rattle.cml_report.proofs.StallingLemmas.{waits_iff, no_call_waits}
use Rattle.cml_report.proofs.follower.Follower.waits.Goals as goal

pub object-requires : goal.object-requires
object-requires c =
    let follower = c.args.self.now in
    let used = uses_next follower.script (history_of follower) (Seat (c.args.thread + 1)) _ c.in-Some.ensures in
    omega (arith, used, c.used_by.ensures)

pub returns-in-Some-object : goal.returns-in-Some-object
returns-in-Some-object c =
    let follower = c.args.self.now in
    let seat = c.args.thread + 1 in
    let is = c.in-Some.ensures in
    let calls = calls_next follower.script (history_of follower) (Seat seat) _ is _
    (Some c.in-Some-object.object) c.used_by.ensures c.in-Some-object.ensures in
    waits_iff follower.script (history_of follower) seat is.at _ c.args.board.now.history c.would_wait.result is.next calls
    c.requires.board c.would_wait.ensures

pub returns-in-None : goal.returns-in-None
returns-in-None c =
    let follower = c.args.self.now in
    let seat = c.args.thread + 1 in
    let is = c.in-Some.ensures in
    let calls = calls_next follower.script (history_of follower) (Seat seat) _ is _ None c.used_by.ensures c.in-None.ensures in
    (λ yes. absurd (false≢true yes), λ waits. absurd (no_call_waits follower.script (history_of follower) seat is.at is.next calls waits))
