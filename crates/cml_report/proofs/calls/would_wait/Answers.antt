use Rattle.std.proofs.Common.{sym}
use Rattle.std.proofs.lemmas.Bool.{false≢true}
use Rattle.cml_report.specs.{call_on}
use Rattle.cml_report.proofs.calls.would_wait.Goals as goal

pub returns-in-Some : goal.returns-in-Some
returns-in-Some c =
    let wants = c.calls_wait_by_want.ensures.wanting c.args.board.now.history
    (call_on c.args.action.now c.args.object) c.in-Some.want (sym c.in-Some.ensures) in
    (λ yes. wants.1 (c.waits.ensures.0 yes), λ both. c.waits.ensures.1 (wants.0 both))

pub returns-in-None : goal.returns-in-None
returns-in-None c =
    let others =
    c.calls_wait_by_want.ensures.others c.args.board.now.history (call_on c.args.action.now c.args.object) (sym c.in-None.ensures) in
    (λ yes. absurd (false≢true yes), λ both. absurd (others both.1))
