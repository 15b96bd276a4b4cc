use Rattle.cml_report.specs.{is_step_entry}
use Rattle.cml_report.proofs.JournalLemmas.{entry_counted}
use Rattle.cml_report.proofs.snapshot.count_calls.Goals as goal

pub loop-entry-preserved : goal.loop-entry-preserved
loop-entry-preserved c =
    entry_counted c.args.journal.now is_step_entry _ _ _ c.entry-item.result _ c.loop-entry-test.true c.entry-item.is
    c.loop-entry.invariant c.from-calls.ensures c.is_of_thread.ensures
