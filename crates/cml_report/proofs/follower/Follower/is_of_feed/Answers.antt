use Rattle.std.proofs.Common.{ℕ, slice_get, ap, sym, ◌∙◌}
use Rattle.cml_board.specs.declared.call.Call.TheVariants as call
use Rattle.cml_report.specs.{number_of, Progress}
use Rattle.std.proofs.lemmas.Bool.{false≢true}
use Rattle.cml_report.proofs.FollowerLemmas.{followed_at, feed_within, of_feed, feed_of, no_feed_there}
use Rattle.cml_report.proofs.follower.Follower.is_of_feed.Goals as goal

pub number-requires : goal.number-requires
number-requires c =
    let script = c.self.inside.plan in
    feed_within script c.args.feed c.in-Some.at (sym (c.in-Some.ensures ∙ ap (λ l. slice_get l c.args.feed) c.self.invariant.objects.fed))

pub returns-in-Some : goal.returns-in-Some
returns-in-Some c =
    let script = c.args.self.now.script in
    let follows = followed_at c.self.view_is c.self.invariant in
    let found = sym (c.in-Some.ensures ∙ ap (λ l. slice_get l c.args.feed) follows.objects.fed) in
    let number = c.number.ensures ∙ ap (λ (p : Progress). number_of p.script c.in-Some.at) c.self.view_is in
    let port = ap (λ (n : ℕ). call.Recv (record { 0 = n })) number in (
      λ yes. of_feed script c.args.feed c.in-Some.at c.args.call.now found (c.same.ensures.0 yes ∙ port),
      λ own. c.same.ensures.1 (feed_of script c.args.feed c.in-Some.at c.args.call.now found own ∙ sym port),
    )

pub returns-in-None : goal.returns-in-None
returns-in-None c =
    let follows = followed_at c.self.view_is c.self.invariant in
    let none = sym (c.in-None.ensures ∙ ap (λ l. slice_get l c.args.feed) follows.objects.fed) in
    (λ yes. absurd (false≢true yes), λ own. absurd (no_feed_there c.args.self.now.script c.args.feed c.args.call.now none own))
