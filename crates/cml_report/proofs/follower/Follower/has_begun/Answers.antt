use Rattle.std.proofs.Common.{ap, arith}
use Rattle.std.proofs.lemmas.Bool.{leb-true, le-leb}
use Rattle.cml_report.specs.{Progress}
use Rattle.cml_report.proofs.JournalLemmas.{before_length}
use Rattle.cml_report.proofs.FollowerLemmas.{followed_at, places_length}
use Rattle.cml_report.proofs.follower.Follower.has_begun.Goals as goal

pub returns : goal.returns
returns c =
    let follower = c.args.self.now in
    let follows = followed_at c.self.view_is c.self.invariant in
    let long = before_length follower.journal follower.followed follows.within in
    let made = places_length follower.script c.self.inside.objects.places.items follows.objects.placed in
    let same = ap (λ (p : Progress). p.followed) c.self.view_is in (
      λ begun. omega (
        arith,
        long,
        made,
        same,
        leb-true c.len.result c.self.inside.followed begun,
        c.len.ensures,
        c.self.inside.objects.places.ok.0,
      ),
      λ le. le-leb c.len.result c.self.inside.followed
          (omega (arith, long, made, same, le, c.len.ensures, c.self.inside.objects.places.ok.0)),
    )
