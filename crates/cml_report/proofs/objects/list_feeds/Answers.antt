use Rattle.std.proofs.Common.{ℕ, ap, ◌∙◌, inl, inr}
use Rattle.std.specs.Prelude.{Vec}
use Rattle.std.specs.Global.{Global}
use Rattle.cml_grammar.specs.{makes_feed}
use Rattle.cml_report.specs.{is_feed}
use Rattle.cml_report.proofs.LineLemmas.{declaration_feed}
use Rattle.cml_report.proofs.QueueLemmas.{declaration_listed}
use Rattle.cml_report.proofs.objects.list_feeds.Goals as goal
use Rattle.cml_report.proofs.objects.list_feeds.Goals.{then-makes_feed+in_ok-push, else-makes_feed}

pub loop-at-preserved : goal.loop-at-preserved
loop-at-preserved c =
    let told = c.declarations-declaration-items.ensures in
    declaration_listed c.args.script.now (is_feed c.args.script.now) makes_feed
    (declaration_feed c.args.script.now) c.declarations-declaration-items.result.now
    c.loop-at.at c.declaration-item.result c.makes_feed.result c.loop-at.feeds.items c.if-makes_feed.feeds.items
    told.lines told.makes c.loop-at-test.true
    c.declaration-item.is c.loop-at.invariant c.makes_feed.ensures
    (elim c.if-makes_feed.branch [
      | then-makes_feed+in_ok-push w ↦
          inl (w.if-makes_feed.true, ap (λ (v : Vec ℕ Global). v.items) w.feeds-is ∙ w.in_ok-push.ensures.items)
      | else-makes_feed w ↦ inr (w.if-makes_feed.false, ap (λ (v : Vec ℕ Global). v.items) w.feeds-is)
    ])
