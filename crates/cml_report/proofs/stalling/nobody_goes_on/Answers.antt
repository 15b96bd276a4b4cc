use Rattle.std.proofs.Common.{reverse, ap, refl, ◌∙◌, arith}
use Rattle.std.proofs.lemmas.List.{reverse-reverse}
use Rattle.cml_report.specs.{history_of}
use Rattle.cml_report.proofs.StallingLemmas.{stuck_iff}
use Rattle.cml_report.proofs.stalling.nobody_goes_on.Goals as goal

pub returns : goal.returns
returns c =
    let ran = c.args.ran.now in
    let follower = c.in_ok-follower.follower in
    let board = ran.board.now in
    let script = c.in_ok-follower.ensures.script ∙ c.script.ensures in
    let all = c.in_ok-follower.ensures.followed ∙ ap reverse c.journal.ensures.entries ∙ reverse-reverse board.history in
    stuck_iff ran.plan.now follower.script board.limit board.history (history_of follower) ran.tally.now c.all_wait.result script all
    (c.if-not-has_begun.ensures.0 refl) (omega (arith, c.if-entries-limit.false, c.entries.ensures, c.limit.ensures.limit))
    (c.if-not-is_all_moved.ensures.0 refl) c.all_wait.ensures
