use Rattle.cml_report.specs.{is_moved}
use Rattle.cml_report.proofs.JournalLemmas.{entry_counted}
use Rattle.cml_report.proofs.snapshot.count_moved.Goals as goal

pub loop-entry-preserved : goal.loop-entry-preserved
loop-entry-preserved c =
    entry_counted c.args.journal.now is_moved _ _ _ c.entry-item.result _ c.loop-entry-test.true c.entry-item.is
    c.loop-entry.invariant c.from-moved.ensures c.is_lane.ensures
