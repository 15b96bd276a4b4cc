use Rattle.std.proofs.Common.{ℕ, ◌+◌, List, sym, subst, ◌∙◌}
use Rattle.std.specs.Prelude.{Vec}
use Rattle.std.specs.Global.{Global}
use Rattle.cml_grammar.specs.{source_of}
use Rattle.cml_board.specs.{Who}
use Rattle.cml_report.proofs.LineLemmas.{declaration_feed, declaration_object, declaration_read}
use Rattle.cml_report.proofs.ObjectLemmas.{AreListed, feed_listed, object_listed, none_listed}
use Rattle.cml_report.proofs.objects.list_makers.Goals as goal
use Rattle.cml_report.proofs.objects.list_makers.Goals.{then-makes_feed+in_ok-push, else-makes_feed+then-makes_object+in_ok-push-2}
use Rattle.cml_report.proofs.objects.list_makers.Goals.{else-makes_feed+else-makes_object}

pub loop-declaration-preserved : goal.loop-declaration-preserved
loop-declaration-preserved c =
    let script = c.args.script.now in
    let told = c.declarations-declaration-items.ensures in
    let i = c.loop-declaration.declaration-index in
    let d = c.declaration-item.result in
    let read = declaration_read script c.declarations-declaration-items.result.now i d told.lines told.makes
    c.loop-declaration-test.true c.declaration-item.is in
    let line = read.0 in
    let is = declaration_feed script d read.1 ∙ sym c.makes_feed.ensures in
    let so_far = c.loop-declaration.invariant in
    let onward = λ (v : Vec Who Global) (n : ℕ). AreListed script (i + 1) v.items n in
    elim c.if-makes_feed.branch [
      | then-makes_feed+in_ok-push w ↦
          subst (λ v. onward v c.if-makes_feed.feeds) (sym w.makers-is)
          (subst (onward w.push.new.self) (sym w.feeds-is)
          (subst (λ (l : List Who). AreListed script (i + 1) l (c.loop-declaration.feeds + 1)) (sym w.in_ok-push.ensures.items)
          (feed_listed script so_far (source_of d.line) line (is ∙ w.if-makes_feed.true))))
      | else-makes_feed+then-makes_object+in_ok-push-2 w ↦
          subst (λ v. onward v c.if-makes_feed.feeds) (sym w.makers-is)
          (subst (onward w.push-then-makes_object.new.self) (sym w.feeds-is)
          (subst (λ (l : List Who). AreListed script (i + 1) l c.loop-declaration.feeds) (sym w.in_ok-push-2.ensures.items)
          (object_listed script so_far (source_of d.line) line (is ∙ w.if-makes_feed.false)
          (declaration_object script d read.1 ∙ sym w.makes_object.ensures ∙ w.if-makes_object.true))))
      | else-makes_feed+else-makes_object w ↦
          subst (λ v. onward v c.if-makes_feed.feeds) (sym w.makers-is)
          (subst (onward c.loop-declaration.makers) (sym w.feeds-is)
          (none_listed script so_far (source_of d.line) line (is ∙ w.if-makes_feed.false)
          (declaration_object script d read.1 ∙ sym w.makes_object.ensures ∙ w.if-makes_object.false)))
    ]
