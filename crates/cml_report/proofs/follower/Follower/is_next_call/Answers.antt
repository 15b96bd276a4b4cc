use Rattle.std.proofs.Common.{Some, None, ap, sym, ◌∙◌, arith}
use Rattle.std.proofs.lemmas.Option.{same_Some, none-some}
use Rattle.std.proofs.lemmas.Bool.{false≢true}
use Rattle.cml_report.specs.{history_of}
use Rattle.cml_report.proofs.FollowerLemmas.{uses_next, calls_next}
use Rattle.cml_report.proofs.follower.Follower.is_next_call.Goals as goal

pub object-requires : goal.object-requires
object-requires c =
    let follower = c.args.self.now in
    let used = uses_next follower.script (history_of follower) c.args.who _ c.in-Some.ensures in
    omega (arith, used, c.used_by.ensures)

pub returns-in-Some-object : goal.returns-in-Some-object
returns-in-Some-object c =
    let follower = c.args.self.now in
    let calls =
    calls_next follower.script (history_of follower) c.args.who _ c.in-Some.ensures _ (Some c.in-Some-object.object) c.used_by.ensures
    c.in-Some-object.ensures in
    (λ yes. calls ∙ ap Some (c.is_call_on.ensures.0 yes), λ next. c.is_call_on.ensures.1 (same_Some _ _ (sym calls ∙ next)))

pub returns-in-None : goal.returns-in-None
returns-in-None c =
    let follower = c.args.self.now in
    let calls =
    calls_next follower.script (history_of follower) c.args.who _ c.in-Some.ensures _ None c.used_by.ensures c.in-None.ensures in
    (λ yes. absurd (false≢true yes), λ next. absurd (none-some _ (sym calls ∙ next)))
