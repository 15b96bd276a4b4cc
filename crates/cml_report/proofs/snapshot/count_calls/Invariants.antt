use Rattle.cml_report.specs.{is_step_entry}
use Rattle.cml_report.proofs.JournalLemmas.{AreCountedBefore}
use Rattle.cml_report.proofs.snapshot.count_calls.Given as goal

abbrev pub invariant-loop-entry : goal.invariant-loop-entry
invariant-loop-entry l = AreCountedBefore l.journal is_step_entry l.entry-index l.calls
