use Rattle.std.proofs.Common.{◌≡◌, None, Some, MatchOption, IfSome, subst}
use Rattle.cml_calls.specs.{Kind}
use Rattle.cml_board.specs.{kind_of}
use Rattle.cml_grammar.specs.{names_of}
use Rattle.cml_report.specs.{History, made_of, IsObjectAt, Told}
use Rattle.cml_report.proofs.UseLemmas.{made_kind}
use Rattle.cml_report.proofs.snapshot.Snapshot.object.Goals as goal

pub returns-clause-kind : goal.returns-clause-kind
returns-clause-kind c =
    let follower = c.self.inside.follower in
    let told = c.self.invariant in
    let name = c.made.result in
    let made = subst (λ (h : History). MatchOption name (made_of follower.script h c.args.at ≡ None)
    (λ n. made_of follower.script h c.args.at ≡ Some n.0)) told.followed c.made.ensures.object in
    let kinds = made_kind follower.script _ c.made.ensures.known c.args.at name told.own told.lawful made in
    subst (λ (t : Told). IfSome name (λ n. (k : Kind) → IsObjectAt (names_of t.script) c.args.at k → kind_of t.history n.0 ≡ Some k))
    c.self.view_is kinds
