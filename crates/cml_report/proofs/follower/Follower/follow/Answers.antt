use Rattle.std.proofs.Common.{◌<◌, get_or, ap, subst, sym, length, arith, IfSome}
use Rattle.std.proofs.lemmas.Option.{slice_get-get_or}
use Rattle.cml_report.specs.{next_position, Progress, history_of}
use Rattle.cml_report.proofs.JournalLemmas.{before_length}
use Rattle.cml_report.proofs.FollowerLemmas.{followed_at, next_given_within, follows_more}
use Rattle.cml_report.proofs.follower.Follower.follow.Goals as goal

pub bind-requires : goal.bind-requires
bind-requires c =
    let follower = c.args.self.now in
    let follows = followed_at c.self.view_is c.self.invariant in
    subst (λ n. IfSome c.next_given-given.result (λ at. at < n)) (sym follows.bound.all)
    (next_given_within follower.script (next_position follower.script (history_of follower) _) c.next_given-given.result
    follows.known.given c.next_given-given.ensures)

pub count-requires : goal.count-requires
count-requires c =
    let follower = c.args.self.now in
    let follows = followed_at c.self.view_is c.self.invariant in
    let long = before_length follower.journal follower.followed follows.within in
    let same = ap (λ (p : Progress). length p.journal) c.self.view_is in
    (history_of follower, follows.counted, omega (arith, long, same, c.requires, c.self.told))

pub invariant_of-self : goal.invariant_of-self
invariant_of-self c =
    let follower = c.args.self.now in
    let within = subst (λ (p : Progress). p.followed < length p.journal) (sym c.self.view_is) c.requires in
    let entry = get_or c.self.inside.journal.now c.self.inside.followed c.index-self-self.result in
    follows_more _ follower _ _ _ _ _ entry c.next_given-given.result c.self.view_is c.self.invariant
    (slice_get-get_or c.self.inside.journal.now c.self.inside.followed c.index-self-self.result within)
    c.next_given-given.ensures c.count.ensures c.bind.ensures
