use Rattle.std.proofs.Common.{refl, sym, subst}
use Rattle.std.proofs.lemmas.Bool.{false≢true}
use Rattle.cml_report.specs.{AreOnLines}
use Rattle.cml_report.proofs.ListLemmas.{read_at}
use Rattle.cml_report.proofs.JournalLemmas.{before_more}
use Rattle.cml_report.proofs.MovedLemmas.{on_line_at}
use Rattle.cml_report.proofs.lanes.are_on_lines.Goals as goal

pub loop-entry-preserved : goal.loop-entry-preserved
loop-entry-preserved c =
    let journal = c.args.journal.now in
    let k = c.loop-entry.entry-index in
    let entry = c.entry-item.result in
    let more = before_more journal k entry (read_at journal k entry c.loop-entry-test.true c.entry-item.is) in
    subst (AreOnLines c.args.plan.now c.args.lanes.now) (sym more) (c.if-not-may_be.ensures.0 refl, c.loop-entry.invariant)

pub returns-then-not-may_be : goal.returns-then-not-may_be
returns-then-not-may_be c =
    let journal = c.args.journal.now in
    let k = c.loop-entry.entry-index in
    let entry = c.entry-item.result in
    let found = read_at journal k entry c.loop-entry-test.true c.entry-item.is in (
      λ yes. absurd (false≢true yes),
      λ all. absurd (false≢true (c.if-not-may_be.ensures.1 (on_line_at c.args.plan.now c.args.lanes.now journal k entry found all))),
    )
